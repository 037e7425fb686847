pub mod ConfirmLaws
pub mod Exactly
pub mod Forms
pub mod Only
pub mod QuickLaws
