pub mod Masks
pub mod Classes
pub mod Component
pub mod Sum
pub mod Theory
pub mod Tables
pub mod Codes
pub mod Halves
