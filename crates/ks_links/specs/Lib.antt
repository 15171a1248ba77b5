-- Rows in runs, kept in two orders.
pub mod RunSets
