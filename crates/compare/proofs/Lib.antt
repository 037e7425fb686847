pub mod Output
pub mod Ranges
