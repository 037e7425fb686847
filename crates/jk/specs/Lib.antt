pub mod Sums
pub mod Outcome
pub mod Symmetry
pub mod Examples
pub mod inner
