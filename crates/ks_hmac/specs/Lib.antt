-- HMAC and PBKDF2.
pub mod Hmac
pub mod Keyed
pub mod Pbkdf2
