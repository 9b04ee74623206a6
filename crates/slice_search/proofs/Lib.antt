pub mod Search
pub mod Ascends
pub mod LowParts
pub mod Same
pub mod Eights
