pub mod EventLemmas
pub mod CalledLemmas
pub mod CallerLemmas
pub mod FactLemmas
pub mod LackLemmas
pub mod RoundLemmas
