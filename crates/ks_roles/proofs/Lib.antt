pub mod ClosureLemmas
pub mod ImplyLemmas
