mod RoleLists
mod TimeLemmas
mod ValidLemmas
mod TellLemmas
mod EndLemmas
pub mod AskLemmas
