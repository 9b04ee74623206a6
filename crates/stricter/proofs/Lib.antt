pub mod Rooms
pub mod Searching
pub mod Lists
pub mod Files
