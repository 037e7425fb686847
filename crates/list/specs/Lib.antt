pub mod Output
pub mod inner
