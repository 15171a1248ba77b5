-- What is true of the fields of a `Revoked`.
use Rattle.std.specs.Prelude.{◌≡◌, ℕ, ◌+◌, ◌-◌, ◌≤◌, min, List, [], ◌∷◌, length}
use Rattle.std.specs.List.{AllByRecursion}
use Rattle.ks_base.specs.declared.limits.TheConstants.{EVENTS}
use Rattle.ks_base.specs.declared.events.EventRow.{EventRow}
use Rattle.ks_base.specs.Revocation.{live}
use Rattle.ks_base.specs.Tables.{IsAscending}
use Rattle.ks_revoke.specs.Things.{thing_cmp, thing_of}
use Rattle.ks_revoke.specs.Marks.{AreMarks}

-- the moments never go back, and none is above the greatest
abbrev pub AreInOrder : ℕ → List EventRow → Type 0
AreInOrder high [] = Unit {0}
AreInOrder high (event ∷ events) =
    (event.moment ≤ high) × AllByRecursion (λ later. event.moment ≤ later.moment) events × AreInOrder high events

pub record IsHeld (life high : ℕ) (events marks : List EventRow) : Type 0 where
  pub within : length events ≤ EVENTS
  pub in_order : AreInOrder high events
  pub all_live : live life high events ≡ events
  -- at most one row a thing, and the live ones are the greatest moments: each other one is past
  pub ascending : IsAscending thing_cmp thing_of marks
  pub marks_are : AreMarks events (live life high marks)
  pub few : length marks ≤ length events + length events

-- how many events more may be added: as many as both lists have places for and as there are spare marks, and at most 262,144 in all
abbrev pub room_of : ℕ → ℕ → ℕ → ℕ → ℕ → ℕ
room_of events event_places marks mark_places spares =
    min (min (EVENTS - events) spares) (min (event_places - events) (mark_places - marks))
