pub mod Checks
pub mod Served
