-- Trusts.
pub mod State
pub mod Sides
