-- The outside.

-- What the public contracts mean, in the order in which it is read: counts of faults; sources, sinks and
-- links; key folders; desks; then what the objects in memory and the real ones show of themselves. Of
-- `steps` only private clauses speak.
pub mod Counts
pub mod Streams
pub mod Pairs
pub mod Files
pub mod Desks
pub mod InMemory
pub mod Real
pub mod steps
