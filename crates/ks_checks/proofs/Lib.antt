pub mod FreshNeeds
pub mod Halts
pub mod LackLemmas
pub mod ListedLemmas
pub mod PasswordLemmas
pub mod RandomIds
pub mod Unrefused
