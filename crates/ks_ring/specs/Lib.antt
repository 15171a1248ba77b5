-- The keys that are held.
pub mod Laws
pub mod Rings
pub mod Sorting
