pub mod Puts
pub mod Sets
pub mod Shown
