-- What the contracts of inner functions speak of, beside what 01 says.
pub mod Packed
