pub mod Ways
pub mod Search
pub mod Rules
pub mod Tags
pub mod Tables
pub mod Steps
pub mod Rounds
