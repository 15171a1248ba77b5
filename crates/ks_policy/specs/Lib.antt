-- The rules of a policy.
pub mod Allowed
pub mod Codes
pub mod Cycles
pub mod Defaults
pub mod Loading
pub mod Marks
pub mod Needs
pub mod Openings
