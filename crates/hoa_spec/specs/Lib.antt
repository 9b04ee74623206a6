pub mod Lines
pub mod Text
pub mod Reading
pub mod Shape
