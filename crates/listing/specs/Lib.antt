pub mod Answers
pub mod Listed
pub mod Text
pub mod inner
