pub mod Entries
pub mod Met
pub mod Starts
