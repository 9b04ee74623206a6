pub mod Spare
pub mod SpareComputed
