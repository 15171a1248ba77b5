-- Bodies of requests.
pub mod Readings
pub mod Places
pub mod Fields
pub mod Times
pub mod Types
pub mod Methods
pub mod Secrets
pub mod Factors
pub mod Names
pub mod Logins
pub mod Rows
pub mod Catalog
pub mod Trusts
pub mod AppCreds
pub mod Bodies
pub mod Ranges
