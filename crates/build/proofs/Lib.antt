pub mod RoomRows
pub mod Making
pub mod Answer
pub mod WithRoom
pub mod Prefaces
pub mod ByLists
