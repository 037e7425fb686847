pub mod Choice
pub mod Chosen
pub mod States
pub mod Steps
pub mod inner
