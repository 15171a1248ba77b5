pub mod SumLemmas
pub mod ViewLemmas
pub mod StepLemmas
pub mod CallLemmas
pub mod PassLemmas
