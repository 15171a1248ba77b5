-- JSON values.
pub mod View
