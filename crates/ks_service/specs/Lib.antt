-- Calls through a turn.
pub mod Work
pub mod Rounds
pub mod Called
pub mod Callers
