-- From a request to its command.

-- What the public contracts mean, in the order in which it is read: the patterns of paths, tables of routes, queries, the
-- commands that requests make, the table of the Identity API, and the ranges of what it asks for. Of `steps` only private
-- clauses speak.
pub mod Patterns
pub mod Tables
pub mod Queries
pub mod Asked
pub mod Routes
pub mod Ranges
pub mod steps
