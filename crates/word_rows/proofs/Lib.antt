pub mod Checks
pub mod Letters
