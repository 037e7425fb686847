pub mod Components
pub mod Listing
pub mod Only
pub mod Places
