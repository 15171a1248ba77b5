mod ChunkLemmas
mod SearchLemmas
mod PlaceLemmas
