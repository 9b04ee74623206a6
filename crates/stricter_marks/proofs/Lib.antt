pub mod Rows
pub mod Joined
pub mod Starts
pub mod Tables
