pub mod Steps
pub mod Starts
pub mod Writes
