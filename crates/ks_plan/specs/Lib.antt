-- What the checks of a call speak of.
pub mod Given
pub mod KeysTold
pub mod Parties
