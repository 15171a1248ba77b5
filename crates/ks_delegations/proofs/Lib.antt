pub mod AskedLemmas
pub mod CredLemmas
pub mod TrustLemmas
