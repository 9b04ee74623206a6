pub mod Walks
pub mod Rounds
pub mod Opening
pub mod Back
pub mod Heights
