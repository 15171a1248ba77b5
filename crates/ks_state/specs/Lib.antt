-- The identity of a server.
pub mod Decides
pub mod Deciding
pub mod DomainRows
pub mod Ends
pub mod Logs
pub mod Planning
pub mod Replies
pub mod Restoring
pub mod Shown
pub mod Standing
pub mod StandingLaws
