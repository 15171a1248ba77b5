pub mod BoundLemmas
pub mod DeriveLemmas
pub mod DrawLemmas
pub mod KeyLemmas
pub mod OpeningLemmas
pub mod RangeLemmas
