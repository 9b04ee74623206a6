pub mod Distance
pub mod Choice
pub mod ChoicesComputed
pub mod Rounds
