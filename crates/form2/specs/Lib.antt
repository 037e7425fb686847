pub mod Bytes
pub mod Cursor
pub mod Header
pub mod Moves
pub mod Reading
pub mod inner
