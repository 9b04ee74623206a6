pub mod FileTables
pub mod Searched
