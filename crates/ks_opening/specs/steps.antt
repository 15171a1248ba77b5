pub mod Indexed
pub mod Listed
pub mod Tables
pub mod Filled
