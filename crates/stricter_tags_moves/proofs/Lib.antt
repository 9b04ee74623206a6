pub mod Spared
pub mod Moves
