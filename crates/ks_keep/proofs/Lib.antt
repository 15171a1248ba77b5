pub mod BookLemmas
pub mod DecideLemmas
pub mod RedoneLemmas
pub mod SendLemmas
