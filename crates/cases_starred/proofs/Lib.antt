pub mod Lasso
pub mod Checks
pub mod Starred
