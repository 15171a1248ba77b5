-- What keeping changes of an identity with its keeper.
use Rattle.std.specs.Prelude.{◌≡◌, ◌⊎◌, ℕ, ◌+◌, ◌≤◌, length, List, Option, Some, None}
use Rattle.ks_entries.specs.Changes.{IsEntry}
use Rattle.ks_keeper.specs.Keeper.{Kept, Keeping, with_entry}
use Rattle.ks_machine.specs.declared.change.Entry.{Entry}
use Rattle.ks_machine.specs.Fronts.{Front}
use Rattle.ks_state.specs.Decides.{with_kept}
use Rattle.ks_keep.specs.Books.{BookedState, IsBookOf, StandsBooked}

-- each change that is not kept yet has its spelling
abbrev pub IsSpelled : {K : Type 0} → BookedState K → Type 0
IsSpelled b = (b.kept + length b.pending ≡ b.shown.state.made) ⊎ (b.shown.newest ≡ None)

-- what the newest change still lacks: nothing, or the spelling of this one
abbrev pub IsLacking : {K : Type 0} → BookedState K → Option (List ℕ) → Type 0
IsLacking b None = IsSpelled b
IsLacking b (Some bytes) =
    (b.kept + length b.pending + 1 ≡ b.shown.state.made) × ((entry : Entry) × (b.shown.newest ≡ Some entry) × IsEntry bytes entry)

-- some of the pending changes may be kept now, and nothing else has changed
pub record GoesOn {K : Type 0} (keeping : Keeping K) (old new : BookedState K) : Type 0 where
  pub shown : new.shown ≡ old.shown
  pub grows : old.kept ≤ new.kept
  pub stands : (f : Front) → StandsBooked keeping old f → StandsBooked keeping new (with_kept f new.kept)
  pub whole : keeping.whole new.keeper → keeping.whole old.keeper
  pub faults : keeping.faults old.keeper ≤ keeping.faults new.keeper
