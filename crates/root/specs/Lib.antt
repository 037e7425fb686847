pub mod Nearest
pub mod Root
pub mod inner
