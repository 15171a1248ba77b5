-- What a stop leaves in a keeper.
use Rattle.std.specs.Prelude.{◌≡◌, ℕ, ◌+◌, List, [], ◌∷◌, take}
use Rattle.ks_keeper.specs.Keeper.{Kept, with_entry}

-- | a keeper's contents, with these bytes put one after the other, from this number on
abbrev pub with_entries : ℕ → List (List ℕ) → Kept → Kept
with_entries number [] kept = kept
with_entries number (bytes ∷ more) kept = with_entries (number + 1) more (with_entry number bytes kept)

-- what a keeper may hold where a stop came while these were being kept, the first at this number: some of them, the first ones first,
-- since each was put whole or not at all
abbrev pub IsStopped : Kept → ℕ → List (List ℕ) → Kept → Type 0
IsStopped kept number pending after = (count : ℕ) × (after ≡ with_entries number (take count pending) kept)
