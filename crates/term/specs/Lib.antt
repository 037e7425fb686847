pub mod Terms
pub mod Weights
