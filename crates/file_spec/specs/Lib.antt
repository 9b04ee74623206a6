pub mod File
pub mod Names
pub mod RuleRows
pub mod Rows
pub mod Reading
