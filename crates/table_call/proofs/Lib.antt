pub mod Lowest
pub mod CallRows
pub mod Calls
