-- What the contracts of inner functions speak of, beside what 02 says.
pub mod Checking
