pub mod AmongLemmas
pub mod ChainLemmas
pub mod GrantLemmas
pub mod IdLemmas
pub mod LinkLemmas
pub mod ListLemmas
pub mod OptionLemmas
pub mod PairLemmas
pub mod PlaceLemmas
pub mod RefusalLemmas
pub mod RowLemmas
pub mod RunLemmas
pub mod TableLemmas
pub mod TrustLemmas
pub mod TruthLemmas
pub mod WalkLemmas
mod HeadLemmas
