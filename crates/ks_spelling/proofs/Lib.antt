pub mod CodeLemmas
pub mod LoopLemmas
