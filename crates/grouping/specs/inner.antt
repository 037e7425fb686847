pub mod Grouped
pub mod Held
pub mod Laying
