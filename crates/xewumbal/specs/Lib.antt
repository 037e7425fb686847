pub mod Answers
pub mod Commas
pub mod Small
pub mod Version
