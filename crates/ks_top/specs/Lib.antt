-- The program.

-- What the public contracts mean, in the order in which it is read: what `talk` and `serve` do behind an opening; how a drill
-- ends; what the program does by its words; what holds wherever it opened an identity; and what holds of every run. Of `steps` only private
-- clauses speak.
pub mod World
pub mod Identities
pub mod Talk
pub mod Serve
pub mod Drills
pub mod Runs
pub mod Headline
pub mod Laws
pub mod steps
