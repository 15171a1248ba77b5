pub mod TheMachine
pub mod Examples
mod WindowExamples
mod KeyExamples
mod TrustExamples
mod CatalogExamples
pub mod FrontLemmas
pub mod RoleLemmas
pub mod FewFacts
pub mod AllFacts
pub mod TokenLemmas
pub mod EndedLemmas
pub mod RefusedLemmas
pub mod RestrictedLemmas
pub mod OpenedLemmas
