pub mod Behind
pub mod Judged
pub mod Piece
