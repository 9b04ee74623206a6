pub mod Files
pub mod Case
pub mod Claim
pub mod Starred
