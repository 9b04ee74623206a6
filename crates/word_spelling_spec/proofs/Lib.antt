pub mod Steps
pub mod Periods
pub mod Tidied
pub mod Same
pub mod Truths
pub mod Cases
