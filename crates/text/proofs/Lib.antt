pub mod Digits
pub mod Only
pub mod Reading
pub mod Writing
