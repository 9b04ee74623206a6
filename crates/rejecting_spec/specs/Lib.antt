pub mod Rejecting
pub mod RejectingComputed
