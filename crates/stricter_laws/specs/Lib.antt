pub mod Pairs
pub mod Sound
pub mod Tests
pub mod Fill
pub mod Parts
pub mod Forest
pub mod Routes
