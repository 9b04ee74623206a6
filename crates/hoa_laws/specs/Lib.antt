pub mod Cursor
pub mod Took
pub mod Parts
