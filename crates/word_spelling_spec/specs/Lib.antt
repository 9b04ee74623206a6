pub mod Spelling
pub mod SpellingComputed
