pub mod Effects
pub mod Served
