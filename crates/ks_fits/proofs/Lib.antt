pub mod RuleLemmas
pub mod ToldLemmas
