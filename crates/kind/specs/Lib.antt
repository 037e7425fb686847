pub mod Kinds
pub mod Limits
pub mod Refusals
