-- When a token is valid.
pub mod ValidTokens
pub mod Laws
