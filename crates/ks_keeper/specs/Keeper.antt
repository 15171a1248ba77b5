-- What a keeper holds: a header, and entries by number.
use Rattle.std.specs.Prelude.{ℕ, List, Option, Some, None, ◌≡◌, ◌≤◌, if◌then◌else◌, ◌==◌}

-- the bytes of the header, if there is one, and the bytes that stand at each number
pub record Kept : Type 0 where
  pub header : Option (List ℕ)
  pub entries : ℕ → Option (List ℕ)

-- the same, with these bytes at this number
abbrev pub with_entry : ℕ → List ℕ → Kept → Kept
with_entry number bytes kept = record kept { entries = λ n. if n == number then Some bytes else kept.entries n }

-- the same, with this header
abbrev pub with_header : List ℕ → Kept → Kept
with_header bytes kept = record kept { header = Some bytes }

-- no entry stands behind a number that has none, and none stands without a header
pub record IsTidy (kept : Kept) : Type 0 where
  pub entries : (number later : ℕ) → kept.entries number ≡ None → number ≤ later → kept.entries later ≡ None
  pub header : kept.header ≡ None → (number : ℕ) → kept.entries number ≡ None

-- | how a keeper is seen: what it holds, whether it is whole, and how many faults it counted
pub record Keeping (K : Type 0) : Type 1 where
  pub kept : K → Kept
  pub whole : K → Type 0
  pub faults : K → ℕ

-- | no header and no entries
abbrev pub nothing_kept : Kept
nothing_kept = record { header = None; entries = λ _. None }
