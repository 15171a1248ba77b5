pub mod CheckLemmas
pub mod CheckerLemmas
pub mod CountLemmas
pub mod KeyFolderLemmas
pub mod LineLemmas
pub mod OpeningLemmas
pub mod PasswordLemmas
