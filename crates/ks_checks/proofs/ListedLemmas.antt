-- Rows of a table that are found one after the other by the ids of some of them, of which those are told that pass.
use Rattle.std.proofs.Common.{◌≡◌, ℕ, zero, suc, ◌+◌, ◌<◌, ◌≤◌, Bool, true, false, ◌&&◌, List, [], ◌∷◌, ◌++◌, length, drop, get_or, map, Some, None, inl, inr, refl, sym, ap, ◌∙◌, append_assoc, add-one, arith}
use Rattle.std.specs.List.{filter}
use Rattle.std.proofs.lemmas.Bool.{and_from, and_parts}
use Rattle.std.proofs.lemmas.Cmp.{nat_list_cmp_total}
use Rattle.std.proofs.lemmas.Grind.{common_steps}
use Rattle.std.proofs.lemmas.List.{length-map}
use Rattle.std.proofs.lemmas.List.Elements.{filter_agree}
use Rattle.std.proofs.lemmas.Slice.Eq.{bytes_eq-Decides}
use Rattle.ks_base.specs.Rows.{Id, same}
use Rattle.ks_base.specs.Tables.{Among, IsAscending, find_row, id_cmp}
use Rattle.ks_base.proofs.RowLemmas.{among_found}
use Rattle.ks_base.proofs.TruthLemmas.{equal_truths}
use Rattle.ks_machine.specs.Assignments.{agrees}
use Rattle.ks_rule.specs.Kinds.{Fields, value_in}

-- two tests, one after the other
pub filter_both : {X : Type 0} (p q : X → Bool) (xs : List X) → filter q (filter p xs) ≡ filter (λ x. p x && q x) xs
filter_both p q [] = refl
filter_both p q (x ∷ xs) = grind (arith, common_steps, filter_both p q xs)

-- who passes one test passes another, so that the second may choose first
pub filter_passed : {X : Type 0} (p q : X → Bool) → ((x : X) → p x ≡ true → q x ≡ true) → (xs : List X) → filter p (filter q xs) ≡ filter p xs
filter_passed p q also xs =
    filter_both q p xs
    ∙ filter_agree (λ x. q x && p x) p (λ x. equal_truths (q x && p x) (p x) (λ both. (and_parts (q x) (p x) both).1) (λ pass. and_from (q x) (p x) (also x pass) pass)) xs

-- whom a filter names
pub agrees_with : (name : List ℕ) (filters : Fields) (wanted id : Id) → Some wanted ≡ value_in filters name → agrees filters name (Some id) ≡ true → id ≡ wanted
agrees_with name filters wanted id is agreed =
    let same_id : same wanted id ≡ true = rw (← is) at agreed in
    sym ((bytes_eq-Decides wanted id).0 same_id)

-- the row whose id stands at this place of the ids of some rows is found by it among all, and is the next of these
placed : {R : Type 0} (key : R → Id) (all some : List R) (i : ℕ) (id : Id) → IsAscending id_cmp key all → ((row : R) → Among some row → Among all row) →
    i < length (map key some) → id ≡ get_or (map key some) i id → (row : R) × (find_row id_cmp key id all ≡ Some row) × (drop i some ≡ row ∷ drop (suc i) some)
placed key all [] i id up within below is = absurd (omega arith)
placed key all (row ∷ some) zero id up within below is = (row, rw is (among_found id_cmp key nat_list_cmp_total all row up (within row (inl refl))), refl)
placed key all (row ∷ some) (suc i) id up within below is = placed key all some i id up (λ later among. within later (inr among)) (omega arith) is

module _ {R : Type 0} (key : R → Id) (all some : List R) (ids : List Id) (i : ℕ) (id : Id) (up : IsAscending id_cmp key all)
    (within : (row : R) → Among some row → Among all row) (ids_are : ids ≡ map key some) (below : i < length ids) (is : id ≡ get_or ids i id) where
  there : (row : R) × (find_row id_cmp key id all ≡ Some row) × (drop i some ≡ row ∷ drop (suc i) some)
  there = placed key all some i id up within (rw ids_are at below) (rw ids_are at is)

  pub never_absent : None ≡ find_row id_cmp key id all → ⊥
  never_absent none = let found = there.1 in cc

  pub next_is : (row : R) → Some row ≡ find_row id_cmp key id all → drop i some ≡ row ∷ drop (i + 1) some
  next_is row found =
      let by_id = there.1 in
      let one : there.0 ≡ row = cc in
      rw (add-one, ← one) there.2

-- a row that passes is told behind those before it, another is passed over, and at the end all are listed

module _ {R T : Type 0} (tell : R → T) (some : List R) (i : ℕ) (row : R) (before after whole : List T) (next : drop i some ≡ row ∷ drop (i + 1) some) where
  pub told_next : after ≡ before ++ tell row ∷ [] → before ++ map tell (drop i some) ≡ whole → after ++ map tell (drop (i + 1) some) ≡ whole
  told_next more so_far = rw (more, append_assoc) (rw next at so_far)

  pub listed : (passes : R → Bool) → passes row ≡ true → after ≡ before ++ tell row ∷ [] → before ++ map tell (filter passes (drop i some)) ≡ whole →
      after ++ map tell (filter passes (drop (i + 1) some)) ≡ whole
  listed passes pass more so_far = rw (more, append_assoc) (rw (next, pass) at so_far)

  pub passed_over : (passes : R → Bool) → passes row ≡ false → after ≡ before → before ++ map tell (filter passes (drop i some)) ≡ whole →
      after ++ map tell (filter passes (drop (i + 1) some)) ≡ whole
  passed_over passes fail alike so_far = rw alike (rw (next, fail) at so_far)

pub all_listed : {R T : Type 0} (key : R → Id) (tell : R → T) (passes : R → Bool) (some : List R) (ids : List Id) (i : ℕ) (rows whole : List T) → ids ≡ map key some → length ids ≤ i →
    rows ++ map tell (filter passes (drop i some)) ≡ whole → rows ≡ whole
all_listed key tell passes some ids i rows whole ids_are end so_far = grind (arith, common_steps, ap length ids_are, length-map some key)
