-- Requests and responses.

-- What the public contracts mean, in the order in which it is read: the lines of a head and its fields, what
-- the head says, the requests of a stream and what contracts see of their reader; then responses. Of `steps`
-- only private clauses speak.
pub mod Lines
pub mod Fields
pub mod Heads
pub mod Next
pub mod Requests
pub mod State
pub mod Responses
pub mod steps
