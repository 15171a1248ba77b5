-- The rule language.
pub mod Checks
pub mod Filling
pub mod Fronts
pub mod Grammar
pub mod Kinds
pub mod Reading
pub mod Seen
pub mod Tokens
pub mod Trees
pub mod TreeCodes
pub mod Truth
pub mod Writing
