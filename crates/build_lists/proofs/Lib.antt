pub mod Ready
pub mod Room
pub mod Padding
