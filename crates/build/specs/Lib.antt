pub mod Built
pub mod Filling
pub mod Entry
