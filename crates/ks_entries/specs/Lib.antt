-- Entries as bytes.
pub mod Changes
pub mod Headers
