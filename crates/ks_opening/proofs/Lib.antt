pub mod FaultLemmas
pub mod FindLemmas
pub mod IndexLemmas
pub mod NameLemmas
pub mod OpeningLemmas
pub mod ParentLemmas
pub mod PutLemmas
