pub mod Repeats
pub mod Repeated
pub mod Known
pub mod Filled
