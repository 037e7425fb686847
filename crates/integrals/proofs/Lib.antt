pub mod Charges
pub mod Factors
pub mod Only
pub mod Rolls
pub mod SumsLaws
pub mod Values
