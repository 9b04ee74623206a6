pub mod Step
pub mod Earlier
