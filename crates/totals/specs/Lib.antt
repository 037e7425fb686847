pub mod ByHand
pub mod Totals
pub mod inner
