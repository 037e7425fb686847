pub mod BranchesLaws
pub mod Falling
pub mod Only
pub mod Packed
pub mod Rightly
pub mod Sizes
