-- One value, many callers. `Rule.antt` also has the rule of the turn: what always holds of its word, of its value at home and of what the
-- passes know.
pub mod Sums
pub mod Unnamed
pub mod Views
pub mod Rule
pub mod Passes
