-- What is kept of the events, and the whole history for which it stands.
use Rattle.std.specs.Prelude.{◌≡◌, ℕ, ◌+◌, ◌≤◌, max, List, [], ◌∷◌, ◌++◌, length}
use Rattle.ks_base.specs.declared.events.EventRow.{EventRow}
use Rattle.ks_base.specs.Revocation.{live}
use Rattle.ks_base.specs.Tables.{IsAscending}
use Rattle.ks_revoke.specs.Marks.{AreMarks}
use Rattle.ks_revoke.specs.Things.{thing_cmp, thing_of}

-- what contracts see of a `Revoked`: what is kept, with its room
pub record Kept : Type 0 where
  -- how long a token lives, in seconds
  pub life : ℕ
  -- the greatest moment so far
  pub high : ℕ
  -- the events that are live then, in the order in which they were added
  pub events : List EventRow
  -- the rows of greatest moments, in the order of things; some may be past
  pub marks : List EventRow
  -- how many may be added before there is a need of more room
  pub room : ℕ

-- the rows of greatest moments are few: at most one a thing, one for each thing that a live event names, and at most two for each
-- live event
pub record AreFew (kept : Kept) : Type 0 where
  pub ascending : IsAscending thing_cmp thing_of kept.marks
  pub marks_are : AreMarks kept.events (live kept.life kept.high kept.marks)
  pub few : length kept.marks ≤ length kept.events + length kept.events

-- all that was told: the life of tokens, the greatest moment and each event ever added
pub record History : Type 0 where
  -- how long a token lives, in seconds
  pub life : ℕ
  -- the greatest moment of all
  pub high : ℕ
  -- each event that was ever added, in order
  pub events : List EventRow

-- the history after an event more, and after a moment more
abbrev pub added : EventRow → History → History
added row history = record history { events = history.events ++ row ∷ [] }

abbrev pub advanced : ℕ → History → History
advanced moment history = record history { high = max history.high moment }

-- what is kept stands for a whole history, whose live events it has
pub record Stands (kept : Kept) (history : History) : Type 0 where
  -- its life is the history's
  pub life_is : kept.life ≡ history.life
  -- its greatest moment is the history's
  pub high_is : kept.high ≡ history.high
  -- its events are the live ones of the whole history: each other one is past its time
  pub events_are : kept.events ≡ live history.life history.high history.events
