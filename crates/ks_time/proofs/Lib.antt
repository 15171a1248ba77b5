pub mod CalendarLemmas
pub mod DateTimeLemmas
pub mod TextLemmas
pub mod WalkLemmas
