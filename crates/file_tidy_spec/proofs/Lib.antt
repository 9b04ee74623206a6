pub mod Examples
pub mod Laws
pub mod Round
pub mod Same
