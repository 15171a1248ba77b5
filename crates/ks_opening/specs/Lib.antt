-- How a server opens.

-- What the public contracts mean. Of `steps` only private clauses speak.
pub mod Opened
pub mod steps
