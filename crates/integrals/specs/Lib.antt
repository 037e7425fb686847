pub mod Evaluation
pub mod Sums
pub mod Values
pub mod inner
