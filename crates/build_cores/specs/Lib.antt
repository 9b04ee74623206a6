pub mod Vectors
pub mod Used
pub mod Parts
pub mod Opens
pub mod Onward
