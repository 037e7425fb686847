pub mod NucleiLaws
pub mod Only
pub mod Promised
pub mod Worked
