-- The commands that open no identity, and what is read before one is opened.

-- What the public contracts mean, in the order in which it is read: the lines of `check`, what it writes for them, and how a
-- check and the program end; then what `setup` and `rotate` do and write, and what `password` does; and what a server opens
-- with. Of `steps` only private clauses speak.
pub mod Lines
pub mod Check
pub mod Ending
pub mod KeyFolders
pub mod Passwords
pub mod Opened
pub mod steps
