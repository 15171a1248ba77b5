-- One-time codes.
pub mod Hmac
pub mod Hotp
pub mod Base32
pub mod Owners
pub mod Factors
