pub mod Leaving
pub mod Meaning
pub mod Tries
pub mod Rounds
pub mod Places
pub mod Filled
pub mod Classes
