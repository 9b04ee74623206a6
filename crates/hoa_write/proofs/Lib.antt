pub mod Examples
pub mod Room
pub mod Rows
pub mod Served
