pub mod Centres
pub mod History
pub mod inner
