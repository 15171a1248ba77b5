-- Validation over tables and facts.
pub mod Facts
pub mod Answers
pub mod Lines
