pub mod Codes
pub mod Gathering
pub mod Closing
pub mod Listing
