pub mod Salvage
pub mod inner
