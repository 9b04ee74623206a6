pub mod Codes
pub mod Bytes
