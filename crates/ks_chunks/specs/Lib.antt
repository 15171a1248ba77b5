-- Sequences in chunks.
pub mod Chunks
