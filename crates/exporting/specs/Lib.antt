pub mod Export
pub mod Text
pub mod inner
