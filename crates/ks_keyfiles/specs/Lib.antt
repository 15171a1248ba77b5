-- The keys of a folder.

-- What the public contracts mean, in the order in which it is read: the keys in a folder's files, and what is told of reading them;
-- how the files of a folder are made and rotated; what holds of all this. Of `steps` only private clauses speak.
pub mod Folders
pub mod Readings
pub mod Setups
pub mod Rotations
pub mod Laws
pub mod steps
