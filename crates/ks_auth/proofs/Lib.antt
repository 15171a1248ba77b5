pub mod FactLemmas
pub mod OpeningLemmas
pub mod LineLemmas
pub mod RoleLemmas
pub mod TimeLemmas
pub mod RangeLemmas
