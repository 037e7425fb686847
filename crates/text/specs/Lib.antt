pub mod Digits
pub mod Parsed
pub mod Reading
pub mod Writing
