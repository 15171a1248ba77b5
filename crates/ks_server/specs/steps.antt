-- What private clauses mean.
pub mod Answers
pub mod Progress
pub mod Shifts
pub mod Seats
