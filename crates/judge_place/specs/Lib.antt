pub mod Starts
pub mod Rounds
