pub mod Cases
pub mod Trimming
pub mod Answer
