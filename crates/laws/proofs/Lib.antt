pub mod Cases
pub mod Contract
pub mod Counting
pub mod Lists
pub mod Pairs
pub mod Parts
pub mod SameLaws
pub mod Totals
