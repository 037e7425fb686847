pub mod Answer
pub mod Import
pub mod Lines
pub mod Telling
pub mod Wrong
pub mod inner
