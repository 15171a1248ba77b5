-- The opening file.
pub mod Entries
pub mod Records
pub mod Written
