pub mod MappedLemmas
pub mod BothLemmas
pub mod RunLemmas
pub mod FaultLemmas
