pub mod Ranges
pub mod Lines
pub mod Rows
pub mod Words
pub mod Meets
pub mod Covers
pub mod Faults
pub mod Turns
