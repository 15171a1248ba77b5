pub mod KeptLemmas
pub mod ShortSpellings
