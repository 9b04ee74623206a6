pub mod Halves
pub mod Dual
pub mod Levels
pub mod Definition7
