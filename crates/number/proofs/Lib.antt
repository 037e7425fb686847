pub mod Laws
pub mod Only
pub mod Reading
pub mod Writing
