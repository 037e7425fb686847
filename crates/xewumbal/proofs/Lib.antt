pub mod CommasFields
pub mod Fields
pub mod Only
pub mod SmallFields
