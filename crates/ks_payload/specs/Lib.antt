-- What a token holds.
pub mod IdFields
pub mod Payloads
pub mod Readings
pub mod Laws
