pub mod Set
pub mod Rows
pub mod Followed
