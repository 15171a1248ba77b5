pub mod Offers
pub mod Places
