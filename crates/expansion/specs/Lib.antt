pub mod Against
pub mod Answer
pub mod Demands
pub mod Expanding
pub mod inner
