pub mod Numbers
pub mod Read
