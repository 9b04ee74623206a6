pub mod Sums
pub mod Marking
pub mod Rounds
pub mod Endless
pub mod Unique
pub mod Closing
pub mod Loops
