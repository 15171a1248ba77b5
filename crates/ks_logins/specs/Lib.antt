-- Logins.
pub mod Logins
