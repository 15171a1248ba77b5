-- A plain journal, and the fronts for which it stands.
use Rattle.std.specs.Prelude.{◌≡◌, ◌⊎◌, ℕ, ◌+◌, List, [], ◌∷◌, ◌++◌, length, max}
use Rattle.ks_machine.specs.declared.change.Entry.{Entry}
use Rattle.ks_machine.specs.Fronts.{Front, IsSound}

-- | a journal of these changes, all of them kept, with this highest moment, stands for the front
pub record IsJournalOf (entries : List Entry) (high : ℕ) (f : Front) : Type 0 where
  pub changes : f.changes ≡ entries
  pub last : f.high ≡ high
  pub kept : f.kept ≡ length entries
  pub sound : IsSound f

-- one change more, at the reading or at the highest moment where that is higher
pub record Added (old : List Entry) (high reading : ℕ) (new : List Entry) (higher : ℕ) : Type 0 where
  pub entry : Entry
  pub moment : entry.moment ≡ max high reading
  pub changes : new ≡ old ++ entry ∷ []
  pub high_is : higher ≡ max high reading

-- a change was added, and a count rose by one; or neither
abbrev pub Grew : List Entry → ℕ → ℕ → List Entry → ℕ → ℕ → ℕ → Type 0
Grew old high reading new higher from to =
    (Added old high reading new higher × (to ≡ from + 1)) ⊎ ((new ≡ old) × (higher ≡ high) × (to ≡ from))
