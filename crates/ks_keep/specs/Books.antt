-- Books: what a keeper holds of a journal, and for which fronts an identity with its keeper stands.
use Rattle.std.specs.Prelude.{◌≡◌, ℕ, suc, ◌≤◌, List, [], ◌∷◌, length, take, drop, Option, Some, None}
use Rattle.ks_entries.specs.declared.header.Header.{Header}
use Rattle.ks_entries.specs.Changes.{IsEntry}
use Rattle.ks_entries.specs.Headers.{IsHeader}
use Rattle.ks_keeper.specs.Keeper.{Kept, Keeping}
use Rattle.ks_machine.specs.declared.change.Entry.{Entry}
use Rattle.ks_machine.specs.Fronts.{Front}
use Rattle.ks_machine.specs.Openings.{PlainOpening}
use Rattle.ks_setup.specs.Headers.{GivesOpening}
use Rattle.ks_state.specs.Shown.{Shown}
use Rattle.ks_state.specs.Standing.{Stands}

-- | the bytes spell a header that gives this opening
abbrev pub HeaderGives : List ℕ → PlainOpening → Type 0
HeaderGives bytes opening = (header : Header) × IsHeader bytes header × GivesOpening header opening

-- a header stands, and gives this opening
abbrev pub HasHeader : Kept → PlainOpening → Type 0
HasHeader kept opening = (bytes : List ℕ) × (kept.header ≡ Some bytes) × HeaderGives bytes opening

-- | the bytes at this number spell this entry
abbrev pub StandsAt : (ℕ → Option (List ℕ)) → ℕ → Entry → Type 0
StandsAt at number entry = (bytes : List ℕ) × (at number ≡ Some bytes) × IsEntry bytes entry

-- | these entries stand one after the other, from this number on
abbrev pub Stand : (ℕ → Option (List ℕ)) → ℕ → List Entry → Type 0
Stand at number [] = Unit {0}
Stand at number (entry ∷ entries) = StandsAt at number entry × Stand at (suc number) entries

-- | these are the entries from 0 to the first number that has none
pub record AreKept (at : ℕ → Option (List ℕ)) (entries : List Entry) : Type 0 where
  pub stand : Stand at 0 entries
  pub end : at (length entries) ≡ None

-- a keeper holds the opening of a front and the first of its changes, those that count as kept at least, and nothing behind them
pub record IsBookOf (kept : Kept) (f : Front) : Type 0 where
  pub header : HasHeader kept f.opening
  pub count : ℕ
  pub least : f.kept ≤ count
  pub most : count ≤ length f.changes
  pub stand : Stand kept.entries 0 (take count f.changes)
  pub none : (number : ℕ) → count ≤ number → kept.entries number ≡ None

-- these bytes spell these entries, of which the last may lack its own
abbrev pub Spell : List (List ℕ) → List Entry → Type 0
Spell [] [] = Unit {0}
Spell [] (entry ∷ []) = Unit {0}
Spell [] (entry ∷ next ∷ entries) = ⊥
Spell (bytes ∷ more) [] = ⊥
Spell (bytes ∷ more) (entry ∷ entries) = IsEntry bytes entry × Spell more entries

-- | what contracts see of an identity with its keeper
pub record BookedState (K : Type 0) : Type 0 where
  pub shown : Shown
  pub keeper : K
  -- the spellings of the changes that are not kept yet, in their order
  pub pending : List (List ℕ)
  -- how many changes are kept
  pub kept : ℕ

-- how a keeper of this type is seen
abbrev pub seen_by : {K : Type 0} → (K → Kept) → (K → Type 0) → (K → ℕ) → Keeping K
seen_by kept whole faults = record { kept = kept; whole = whole; faults = faults }

-- | an identity with its keeper stands for a front: its changes that are not kept are spelled, and a whole keeper is a book of the front
pub record StandsBooked {K : Type 0} (keeping : Keeping K) (b : BookedState K) (f : Front) : Type 0 where
  pub stands : Stands b.shown f
  pub kept : f.kept ≡ b.kept
  pub most : b.kept ≤ length f.changes
  -- the changes that are not kept yet have their spellings, but the newest may lack its own
  pub pending : Spell b.pending (drop b.kept f.changes)
  -- and a keeper that is whole is a book of the front
  pub book : keeping.whole b.keeper → IsBookOf (keeping.kept b.keeper) f

-- it stands for a front, and where its keeper is whole this holds
pub record StandsSince {K : Type 0} (keeping : Keeping K) (holds : Type 0) (b : BookedState K) (f : Front) : Type 0 where
  pub stands : StandsBooked keeping b f
  pub since : keeping.whole b.keeper → holds

-- | how many changes are kept
abbrev pub kept_of : {K : Type 0} → BookedState K → ℕ
kept_of b = b.kept
