mod IndexLemmas
mod KeepLemmas
pub mod MappedLemmas
mod MoveLemmas
pub mod NameLemmas
mod OrderedLemmas
mod PickLemmas
pub mod RunLemmas
