pub mod Words
pub mod Sheet
pub mod Judged
pub mod Computed
