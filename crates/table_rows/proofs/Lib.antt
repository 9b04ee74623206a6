pub mod Faults
pub mod Passed
