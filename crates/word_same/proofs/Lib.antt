pub mod Sameness
pub mod Cases
