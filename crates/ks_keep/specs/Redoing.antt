-- How the entries of a keeper are made once more, one after the other.
use Rattle.std.specs.Prelude.{◌≡◌, ℕ, Bool, true, false, List, [], ◌∷◌, ◌++◌, length, Option, Some, None, Result, Ok, Err}
use Rattle.ks_entries.specs.Changes.{IsEntry}
use Rattle.ks_keeper.specs.Keeper.{Keeping}
use Rattle.ks_machine.specs.declared.change.Entry.{Entry}
use Rattle.ks_machine.specs.Fronts.{Front}
use Rattle.ks_machine.specs.Openings.{PlainOpening}
use Rattle.ks_state.specs.Restoring.{MayFollow, redone, restored_front}
use Rattle.ks_state.specs.Shown.{Shown}
use Rattle.ks_state.specs.Standing.{StandsWithAllKept}
use Rattle.ks_keep.specs.declared.fault.NotRead.{NotRead}
use Rattle.ks_keep.specs.declared.fault.NotRead.TheVariants as why
use Rattle.ks_keep.specs.declared.past.Past.{Past}
use Rattle.ks_keep.specs.Books.{Stand}
use Rattle.ks_keep.specs.Pasts.{entries_of}
use Rattle.ks_keep.specs.Restored.{IsRead, IsWhy}

-- what stands at this number is no entry, or one that can't follow at any front for which the identity stands
pub record IsBadAt (at : ℕ → Option (List ℕ)) (number : ℕ) (shown : Shown) : Type 0 where
  pub bytes : List ℕ
  pub is : at number ≡ Some bytes
  pub bad : (entry : Entry) → IsEntry bytes entry → (f : Front) → StandsWithAllKept shown f → MayFollow f entry → ⊥

-- an entry was read, and its change made once more, behind these
pub record IsOneRedone (at : ℕ → Option (List ℕ)) (whole : Type 0) (number : ℕ) (old new : Shown) (before after : List Entry) : Type 0 where
  pub bytes : List ℕ
  pub entry : Entry
  pub spells : IsEntry bytes entry
  pub is : whole → at number ≡ Some bytes
  pub stands : (f : Front) → StandsWithAllKept old f → StandsWithAllKept new (redone f entry)
  pub entries : after ≡ before ++ entry ∷ []

-- the entry with this number was made once more, or there is none, or it is bad
abbrev pub RedoesAt : (ℕ → Option (List ℕ)) → Type 0 → ℕ → Shown → List Entry → Result Bool NotRead → Shown → List Entry → Type 0
RedoesAt at whole number old before (Ok true) new after = IsOneRedone at whole number old new before after
RedoesAt at whole number old before (Ok false) new after = (whole → at number ≡ None) × (new ≡ old) × (after ≡ before)
RedoesAt at whole number old before (Err (why.BadEntry bad)) new after = (bad ≡ number) × (whole → IsBadAt at number old)
RedoesAt at whole number old before (Err why.Failed) new after = Unit {0}
RedoesAt at whole number old before (Err why.Memory) new after = Unit {0}

-- so many entries were made once more so far
pub record AreRedoneSoFar {K : Type 0} (keeping : Keeping K) (old : K) (opening : PlainOpening) (number : ℕ) (shown : Shown) (new : K) (entries : List Entry) : Type 0 where
  pub keeper : IsRead keeping old new
  pub count : length entries ≡ number
  pub stands : StandsWithAllKept shown (restored_front opening entries)
  pub stand : keeping.whole new → Stand (keeping.kept old).entries 0 entries

-- all were, or one is bad
abbrev pub RedoesAll : {K : Type 0} → Keeping K → K → PlainOpening → Result Past NotRead → Shown → K → Type 0
RedoesAll keeping old opening (Ok past) shown new =
    (number : ℕ) × AreRedoneSoFar keeping old opening number shown new (entries_of past) × (keeping.whole new → (keeping.kept old).entries number ≡ None)
RedoesAll keeping old opening (Err fault) shown new = IsRead keeping old new × IsWhy keeping old opening new fault
