pub mod Parts
pub mod Filled
