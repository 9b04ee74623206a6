pub mod FileRows
pub mod Accepted
pub mod NamesPlaced
pub mod Answer
pub mod RowAndRule
pub mod Prefaces
pub mod Layouts
