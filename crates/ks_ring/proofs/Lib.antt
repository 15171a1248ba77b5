pub mod LawLemmas
pub mod NumberLemmas
pub mod RingLemmas
pub mod RotationLemmas
pub mod SortLemmas
