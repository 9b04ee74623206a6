pub mod Mixed
pub mod Numbered
