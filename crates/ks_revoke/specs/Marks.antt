-- The greatest moments of events.
-- Source: OS-REVOKE.
use Rattle.std.specs.Prelude.{◌≡◌, ℕ, ◌≤◌, ◌↔◌, nat_le, Bool, false, List, Option, Some, None}
use Rattle.std.specs.List.{AllByRecursion}
use Rattle.ks_base.specs.declared.events.EventRow.{EventRow}
use Rattle.ks_base.specs.declared.events.Revoke.{Revoke}
use Rattle.ks_base.specs.Revocation.{live}
use Rattle.ks_base.specs.Tables.{Among, IsAscending, find_row}
use Rattle.ks_revoke.specs.Things.{thing_cmp, thing_of}

-- | one of the events, where no event of its thing has a greater moment
abbrev pub IsGreatest : List EventRow → EventRow → Type 0
IsGreatest events row = Among events row × AllByRecursion (λ event. event.what ≡ row.what → event.moment ≤ row.moment) events

-- a row for each thing that an event names, with the greatest moment of its events, in the order of things
pub record AreMarks (events rows : List EventRow) : Type 0 where
  pub ascending : IsAscending thing_cmp thing_of rows
  pub greatest : (row : EventRow) → Among rows row ↔ IsGreatest events row

-- what contracts see of rows that are lent: those that are still to come, of which each that is past is passed over
pub record Lent : Type 0 where
  -- how long a token lives, in seconds
  pub life : ℕ
  -- the moment at which rows are live or past
  pub high : ℕ
  pub rows : List EventRow

abbrev pub lent : Lent → List EventRow
lent marks = live marks.life marks.high marks.rows

-- the row, if there is one, ends the tokens that were issued then
abbrev pub ends_then : ℕ → Option EventRow → Bool
ends_then issued None = false
ends_then issued (Some row) = nat_le issued row.moment

-- the mark of a thing, if there is one, ends what was issued then
abbrev pub ends_if : ℕ → List EventRow → Option Revoke → Bool
ends_if issued marks None = false
ends_if issued marks (Some thing) = ends_then issued (find_row thing_cmp thing_of thing marks)

-- the one row of an event's thing
pub record IsMarkOf (event : EventRow) (rows : List EventRow) (row : EventRow) : Type 0 where
  pub stands : Among rows row
  pub names : row.what ≡ event.what
  pub no_less : event.moment ≤ row.moment
  pub alone : (other : EventRow) → Among rows other → other.what ≡ event.what → other ≡ row
