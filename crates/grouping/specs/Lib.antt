pub mod Grouping
pub mod Evaluation
pub mod Restoring
pub mod inner
