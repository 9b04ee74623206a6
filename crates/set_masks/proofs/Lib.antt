pub mod Sets
pub mod Over
