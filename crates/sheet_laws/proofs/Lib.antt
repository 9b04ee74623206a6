pub mod Distinct
pub mod Walk
pub mod Alone
pub mod Shared
pub mod Meaning
