pub mod Shells
pub mod inner
