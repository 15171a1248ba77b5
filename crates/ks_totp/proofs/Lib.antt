pub mod HmacLemmas
pub mod LetterLemmas
pub mod BitLemmas
pub mod Base32Lemmas
pub mod PaddingLemmas
pub mod OwnerLemmas
pub mod RuleLemmas
pub mod Vectors
