pub mod Chains
pub mod Appended
pub mod Growth
pub mod Keys
pub mod Reached
pub mod Tables
pub mod Sets
pub mod Emission
