pub mod Product
pub mod Marks
pub mod Waiting
