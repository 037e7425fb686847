pub mod Sizes
pub mod Sums
pub mod Places
pub mod Symmetry
pub mod Computed
pub mod Only
