pub mod Word
pub mod Serve
