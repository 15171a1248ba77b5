pub mod ListLemmas
mod OpeningLemmas
pub mod TreeLemmas
mod PeopleLemmas
mod CatalogLemmas
mod CredentialLemmas
mod TrustLemmas
mod OrderLemmas
mod AnchorLemmas
mod StateLemmas
mod GivesLemmas
mod LineLemmas
mod TokenLemmas
mod RowCommands
mod CatalogRows
mod TrustCommands
mod CredentialCommands
mod CommandLemmas
mod AsksLemmas
mod QuietLemmas
mod LackLemmas
pub mod LackLaws
pub mod FrontLemmas
pub mod LawLemmas
mod LimitExamples
