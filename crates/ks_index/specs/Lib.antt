-- Tables by name.
pub mod Indexes
