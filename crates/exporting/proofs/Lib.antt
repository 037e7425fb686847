pub mod Lines
pub mod Only
pub mod Rolls
pub mod Room
pub mod Terms
pub mod Unchanged
pub mod Worked
