-- The grants at a target.
mod TargetLemmas
