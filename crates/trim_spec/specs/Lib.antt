pub mod Matters
pub mod Trimmed
pub mod Graph
pub mod Tagged
