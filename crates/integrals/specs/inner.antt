pub mod Barred
pub mod Stored
