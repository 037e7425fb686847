pub mod Only
pub mod SameTerms
