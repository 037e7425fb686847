pub mod Again
pub mod Held
pub mod Judged
pub mod Over
