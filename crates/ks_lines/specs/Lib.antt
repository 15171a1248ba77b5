-- Lines for a person.
pub mod FormLines
pub mod Meetings
pub mod RowLines
pub mod Spots
