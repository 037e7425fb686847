pub mod Confirm
pub mod inner
