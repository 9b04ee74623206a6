pub mod Cases
pub mod Rows
pub mod Meaning
pub mod Prefaces
