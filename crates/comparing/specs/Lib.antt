pub mod Answers
pub mod Pairs
pub mod Sides
pub mod Text
pub mod inner
