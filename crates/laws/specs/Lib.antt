pub mod Placed
pub mod Same
pub mod Total
pub mod Unless
