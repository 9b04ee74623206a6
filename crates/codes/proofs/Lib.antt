pub mod Packing
pub mod Round
pub mod Low
pub mod Starts
pub mod Examples
