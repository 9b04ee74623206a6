pub mod Reached
pub mod Afresh
pub mod History
pub mod State
pub mod Effects
pub mod Rows
pub mod Called
