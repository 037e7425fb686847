pub mod Nuclei
pub mod inner
