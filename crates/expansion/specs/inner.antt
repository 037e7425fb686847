-- What the contracts of inner functions speak of, beside what 01 says.
pub mod Matching
pub mod Measuring
pub mod Packings
pub mod Requests
pub mod Sinks
pub mod View
pub mod Walking
