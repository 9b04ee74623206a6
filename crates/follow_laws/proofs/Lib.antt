pub mod Cuts
pub mod Leaves
