pub mod Sweeps
pub mod Counts
pub mod Letters
