pub mod Check
pub mod Expand
pub mod Profile
pub mod Shown
pub mod inner
