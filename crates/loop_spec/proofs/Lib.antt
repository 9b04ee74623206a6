pub mod Cases
pub mod Walks
pub mod Masks
pub mod Routes
pub mod Reported
pub mod Shape
pub mod Components
pub mod ReportCases
