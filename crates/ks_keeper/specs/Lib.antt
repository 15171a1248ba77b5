-- Where a journal is kept.
pub mod Keeper
pub mod Book
pub mod Memory
