pub mod Places
pub mod Same
pub mod LowParts
pub mod Zeros
