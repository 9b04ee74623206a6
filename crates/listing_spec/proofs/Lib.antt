pub mod Cases
pub mod Listed
pub mod Room
pub mod ByLists
