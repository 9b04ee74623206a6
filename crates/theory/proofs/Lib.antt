pub mod AboutExamples
pub mod MaskCases
pub mod AboutSequences
