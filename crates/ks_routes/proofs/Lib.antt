pub mod ApartLemmas
pub mod CommandLemmas
pub mod IdLemmas
pub mod AskedLemmas
pub mod RowLemmas
pub mod ServedLemmas
pub mod LawLemmas
pub mod SegmentLemmas
pub mod HoldsLemmas
pub mod RangeLemmas
mod WholeLemmas
