pub mod Listing
pub mod Computed
