pub mod Replays
pub mod Writes
