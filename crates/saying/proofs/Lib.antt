pub mod Only
pub mod Pieces
pub mod SaidLaws
