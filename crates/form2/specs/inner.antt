pub mod Held
pub mod Puts
