pub mod FoundRows
pub mod GivenLemmas
pub mod MemberLists
pub mod NoIds
pub mod Passed
pub mod UserProjectLemmas
