pub mod RowsLemmas
pub mod ThingLemmas
pub mod LiveLemmas
pub mod MarkLemmas
pub mod TestLemmas
pub mod HeldLemmas
pub mod LawLemmas
