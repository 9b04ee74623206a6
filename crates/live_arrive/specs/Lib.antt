pub mod Tried
pub mod Quickly
