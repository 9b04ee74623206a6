pub mod Cases
pub mod ReadingCases
