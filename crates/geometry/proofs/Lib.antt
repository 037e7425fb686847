pub mod FiniteFloats
pub mod Numbered
pub mod Checks
pub mod Charges
pub mod Only
