pub mod FirstLine
pub mod Numeral
pub mod Places
pub mod Shape
pub mod Size
