-- An identity whose changes are kept.
pub mod BookLaws
pub mod Books
pub mod Keeping
pub mod Pasts
pub mod Redoing
pub mod Restored
pub mod Stops
