pub mod Reached
pub mod Empty
pub mod Parts
pub mod Laid
pub mod States
pub mod Histories
pub mod Leaves
pub mod Refused
