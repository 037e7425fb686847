pub mod Floats
pub mod Geometry
pub mod Tables
pub mod Charges
pub mod Checks
