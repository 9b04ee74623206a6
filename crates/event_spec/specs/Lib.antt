pub mod Events
pub mod Translation
