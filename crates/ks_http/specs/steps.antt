pub mod Says
pub mod Buffers
pub mod Writes
