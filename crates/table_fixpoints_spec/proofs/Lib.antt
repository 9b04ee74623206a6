pub mod Marking
pub mod Places
pub mod Orders
pub mod Pruning
pub mod Loops
pub mod Waiting
