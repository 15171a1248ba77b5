-- Writing and reading items one after the other, as the loops do.
use Rattle.std.proofs.Common.{◌≡◌, ℕ, suc, ◌+◌, ◌-◌, ◌<◌, List, [], ◌∷◌, ◌++◌, Option, Some, None, refl, sym, ap, ◌∙◌, append_assoc, arith}
use Rattle.std.specs.Prelude.{option_map}
use Rattle.ks_spelling.specs.Codes.{Code}
use Rattle.ks_spelling.specs.Wholes.{AllFit, spell_all, read_times}

-- ---- writing

-- what is written so far, and what is still to be
pub record IsWriting (A : Type 0) (code : Code A) (items left : List A) (old new : List ℕ) : Type 0 where
  pub fits : AllFit code left → AllFit code items
  pub spelled : new ++ spell_all code left ≡ old ++ spell_all code items

-- ---- reading

-- what was read before, and what is still read
abbrev pub prefixed : {A : Type 0} → List A → Option (List A × List ℕ) → Option (List A × List ℕ)
prefixed front reading = option_map (λ p. (front ++ p.0, p.1)) reading

regroup : {A : Type 0} (front : List A) (x : A) (reading : Option (List A × List ℕ)) →
    prefixed front (option_map (λ (b : List A × List ℕ). (x ∷ b.0, b.1)) reading) ≡ prefixed (front ++ x ∷ []) reading
regroup front x None = refl
regroup {A} front x (Some p) = ap (λ (xs : List A). Some (xs, p.1)) (sym (append_assoc front (x ∷ []) p.0))

pub reads_next : {A : Type 0} (code : Code A) (front : List A) (count i : ℕ) (bytes : List ℕ) (x : A) (after : List ℕ) (total : Option (List A × List ℕ)) →
    i < count → code.read bytes ≡ Some (x, after) → prefixed front (read_times code (count - i) bytes) ≡ total →
    prefixed (front ++ x ∷ []) (read_times code (count - (i + 1)) after) ≡ total
reads_next {A} code front count i bytes x after total lt h so_far =
    let k : count - i ≡ suc (count - (i + 1)) = omega arith in
    let one : prefixed front (read_times code (count - i) bytes) ≡ prefixed (front ++ x ∷ []) (read_times code (count - (i + 1)) after) =
    rw (k, h) (regroup front x (read_times code (count - (i + 1)) after)) in
    sym one ∙ so_far

pub reads_none : {A : Type 0} (code : Code A) (front : List A) (count i : ℕ) (bytes : List ℕ) (total : Option (List A × List ℕ)) →
    i < count → code.read bytes ≡ None → prefixed front (read_times code (count - i) bytes) ≡ total → total ≡ None
reads_none {A} code front count i bytes total lt h so_far =
    let k : count - i ≡ suc (count - (i + 1)) = omega arith in
    let one : prefixed front (read_times code (count - i) bytes) ≡ None = rw (k, h) refl in
    sym so_far ∙ one
