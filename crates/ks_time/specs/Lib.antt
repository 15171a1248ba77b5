-- Moments as texts.
pub mod Calendar
pub mod TimeTexts
pub mod Laws
