pub mod AskedLemmas
pub mod KeyLemmas
pub mod LiveEvents
