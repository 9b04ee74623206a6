pub mod Fronts
pub mod Loop
pub mod Calls
