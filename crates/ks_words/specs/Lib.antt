-- The command line.
pub mod Words
