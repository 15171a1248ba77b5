pub mod DescentLemmas
pub mod FoundTrusts
pub mod IdLists
pub mod RowChanges
pub mod SideLemmas
pub mod UseLemmas
pub mod WalkSteps
