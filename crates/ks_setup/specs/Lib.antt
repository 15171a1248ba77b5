-- What a server opens with.
pub mod Openings
pub mod Steps
pub mod Forms
pub mod Headers
pub mod Ranges
