-- AES-128 in CBC.
pub mod Field
pub mod Aes
pub mod Cbc
pub mod Inverse
pub mod Columns
pub mod Keys
