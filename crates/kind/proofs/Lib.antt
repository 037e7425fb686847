pub mod Faults
pub mod KindNumber
pub mod Only
pub mod Within
