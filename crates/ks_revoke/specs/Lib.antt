-- Revocations.
pub mod Things
pub mod Marks
pub mod Histories
pub mod Holding
