pub mod KeyCalls
pub mod Openings
pub mod PasswordReads
pub mod Progress
