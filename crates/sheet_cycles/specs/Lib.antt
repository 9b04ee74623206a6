pub mod Repeats
pub mod Known
pub mod Filled
