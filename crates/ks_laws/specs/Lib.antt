-- What every lawful front keeps.
pub mod Ancestries
pub mod Orderly
pub mod Lacking
pub mod Laws
