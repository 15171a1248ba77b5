-- A long script of calls.
pub mod Openings
pub mod Scripts
pub mod Drill
