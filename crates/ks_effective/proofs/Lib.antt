pub mod ActorLemmas
pub mod ReachLemmas
pub mod GrantedLemmas
pub mod TopLemmas
pub mod WalkParts
pub mod TargetLemmas
pub mod PlaceLemmas
