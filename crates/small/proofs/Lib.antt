pub mod Accepted
pub mod CheckLaws
pub mod ExpandLaws
pub mod Most
pub mod Only
pub mod ProfileLaws
pub mod Units
