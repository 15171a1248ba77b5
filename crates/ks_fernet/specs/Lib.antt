-- Fernet keys and tokens.
pub mod Base64Url
pub mod KeyText
pub mod Opened
pub mod Opener
pub mod Opening
pub mod Token
pub use Rattle.ks_aes_cbc.specs.Aes
