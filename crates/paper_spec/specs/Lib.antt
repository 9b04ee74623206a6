pub mod Halves
pub mod Definition7
pub mod Examples
