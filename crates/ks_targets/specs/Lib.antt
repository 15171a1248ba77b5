-- What commands ask for, and what rules see.
pub mod Views
