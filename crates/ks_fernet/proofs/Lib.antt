pub mod AnswerLemmas
pub mod DecodedBytes
pub mod Spelling
pub mod KeyTexts
pub mod Tokens
pub mod Readings
pub mod Openings
pub mod Sealed
