pub mod Tests
pub mod Masks
pub mod Digits
pub mod Lists
