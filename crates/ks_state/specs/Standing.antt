-- For which fronts an identity stands.
use Rattle.std.specs.Prelude.{◌≡◌, ℕ, List, [], ◌∷◌, ◌++◌, length, Option, Some, None}
use Rattle.ks_base.specs.Revocation.{live}
use Rattle.ks_machine.specs.declared.change.Entry.{Entry}
use Rattle.ks_machine.specs.Fronts.{Front, replay}
use Rattle.ks_machine.specs.Lawful.{IsLawful}
use Rattle.ks_machine.specs.States.{State}
use Rattle.ks_state.specs.Shown.{Shown}

-- | the state with the live ones of its revocations alone
abbrev pub with_live : State → State
with_live S = record S { events = live S.settings.life S.high S.events }

-- | the last of all changes, if there is one
abbrev pub IsNewest : Option Entry → List Entry → Type 0
IsNewest None changes = changes ≡ []
IsNewest (Some entry) changes = (older : List Entry) × (changes ≡ older ++ entry ∷ [])

-- an identity stands for a front: its state is the front's with the live revocations alone, its newest change is the last of the front's,
-- and the front is lawful
pub record Stands (shown : Shown) (f : Front) : Type 0 where
  -- its state is that of the front, with the live revocations alone
  pub state : shown.state ≡ with_live (replay f)
  -- its last change is that of the front
  pub newest : IsNewest shown.newest f.changes
  -- and the front is one that calls can reach
  pub lawful : IsLawful f

-- an identity in memory alone stands for a front all of whose changes are kept
pub record StandsWithAllKept (shown : Shown) (f : Front) : Type 0 where
  pub stands : Stands shown f
  pub kept : f.kept ≡ length f.changes

-- | how many changes were made
abbrev pub changes_made : Shown → ℕ
changes_made shown = shown.state.made
