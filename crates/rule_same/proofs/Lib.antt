pub mod Prefaces
pub mod Same
