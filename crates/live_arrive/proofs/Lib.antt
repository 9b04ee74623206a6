pub mod Turns
pub mod Rises
pub mod Arrivals
