-- Whole turns, tried.
pub mod Journals
pub mod Makes
