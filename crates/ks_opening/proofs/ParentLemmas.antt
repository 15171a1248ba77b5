-- Parents that come earlier.
use Rattle.std.proofs.Common.{◌≡◌, ℕ, zero, suc, Bool, true, false, not, ◌&&◌, ◌||◌, cond, List, [], ◌∷◌, take, Option, Some, None, is_none, is_some, refl, sym, ap, ◌∙◌}
use Rattle.std.specs.List.{AllByRecursion, find, list_any}
use denote.Ref.{Bor}
use Rattle.std.specs.Option.{option_copied, option_map_or}
use Rattle.std.proofs.lemmas.Slice.Eq.{bytes_eq-Decides}
use Rattle.ks_base.specs.declared.catalog.RegionRow.{RegionRow}
use Rattle.ks_base.specs.declared.kinds.Kind.TheVariants as kind
use Rattle.ks_base.specs.declared.rows.ProjectRow.{ProjectRow}
use Rattle.ks_base.specs.Refusals.{fault_if}
use Rattle.ks_base.specs.Rows.{Id, same}
use Rattle.ks_base.specs.Tables.{find_row, has_key, id_cmp}
use Rattle.ks_base.specs.Tree.{is_top}
use Rattle.ks_base.proofs.RowLemmas.{find_by_id, id_same}
use Rattle.ks_machine.specs.declared.settings.OpenFault.TheVariants as fault
use Rattle.ks_machine.specs.Opened.{parent_absent, upper_region_absent}
use Rattle.ks_opening.specs.steps.Indexed.{AreApart}

all_take : {X : Type 0} (P : X → Type 0) (n : ℕ) (rows : List X) → AllByRecursion P rows → AllByRecursion P (take n rows)
all_take P zero [] all = tt
all_take P zero (row ∷ rows) all = tt
all_take P (suc n) [] all = tt
all_take P (suc n) (row ∷ rows) all = (all.0, all_take P n rows all.1)

apart_take : {X : Type 0} (key : X → Id) (n : ℕ) (rows : List X) → AreApart id_cmp key rows → AreApart id_cmp key (take n rows)
apart_take key zero [] apart = tt
apart_take key zero (row ∷ rows) apart = tt
apart_take key (suc n) [] apart = tt
apart_take key (suc n) (row ∷ rows) apart =
    (all_take (λ other. has_key id_cmp key (key row) other ≡ false) n rows apart.0, apart_take key n rows apart.1)

-- behind a row with the id there is no other
none_behind : {X : Type 0} (key : X → Id) (also : X → Bool) (id : Id) (rows : List X) → AllByRecursion (λ other. has_key id_cmp key id other ≡ false) rows →
    list_any (λ row. same (key row) id && also row) rows ≡ false
none_behind key also id [] apart = refl
none_behind key also id (row ∷ rows) apart = rw (sym (id_same (key row) id) ∙ apart.0) (none_behind key also id rows apart.1)

-- so a test of a row with the id is one of the row that is found by it
any_by : {X : Type 0} (key : X → Id) (also : X → Bool) (id : Id) (row : X) (rows : List X) (b : Bool) → same (key row) id ≡ b →
    AllByRecursion (λ other. has_key id_cmp key (key row) other ≡ false) rows →
    list_any (λ next. same (key next) id && also next) rows ≡ option_map_or also (find (λ next. same (key next) id) rows) false →
    ((b && also row) || list_any (λ next. same (key next) id && also next) rows) ≡ option_map_or also (cond b (Some row) (find (λ next. same (key next) id) rows)) false
any_by key also id row rows false is apart later = later
any_by key also id row rows true is apart later =
    let alike : key row ≡ id = (bytes_eq-Decides (key row) id).0 is in
    let none : list_any (λ next. same (key next) id && also next) rows ≡ false =
    ap (λ (k : Id). list_any (λ next. same (key next) k && also next) rows) (sym alike) ∙ none_behind key also (key row) rows apart in
    ap (λ b. also row || b) none ∙ or_false (also row)
  where
    or_false : (b : Bool) → (b || false) ≡ b
    or_false true = refl
    or_false false = refl

any_of : {X : Type 0} (key : X → Id) (also : X → Bool) (id : Id) (rows : List X) → AreApart id_cmp key rows →
    list_any (λ row. same (key row) id && also row) rows ≡ option_map_or also (find (λ row. same (key row) id) rows) false
any_of key also id [] apart = refl
any_of key also id (row ∷ rows) apart =
    any_by key also id row rows (same (key row) id) refl apart.0 (any_of key also id rows apart.1)

-- the fault of a parent that is found, or not
pub parent_is : (rows : List ProjectRow) (at : ℕ) (row : ProjectRow) (found : Option ProjectRow) → AreApart id_cmp (λ r. r.id) rows → is_top row ≡ false →
    found ≡ find_row id_cmp (λ r. r.id) row.parent (take at rows) →
    parent_absent (take at rows) row ≡ fault_if (not (option_map_or (λ parent. same parent.domain row.domain) found false)) (fault.Absent kind.Project row.parent)
parent_is rows at row found apart lower is =
    ap (λ b. fault_if (not b && not (list_any (λ other. same other.id row.parent && same other.domain row.domain) (take at rows))) (fault.Absent kind.Project row.parent)) lower
    ∙ ap (λ b. fault_if (not b) (fault.Absent kind.Project row.parent))
    (any_of (λ r. r.id) (λ parent. same parent.domain row.domain) row.parent (take at rows) (apart_take (λ r. r.id) at rows apart)
    ∙ ap (λ (o : Option ProjectRow). option_map_or (λ parent. same parent.domain row.domain) o false) (sym (find_by_id (λ r. r.id) row.parent (take at rows)) ∙ sym is))

-- the fault of a region above that is found, or not

any_found : {X : Type 0} (test : X → Bool) (rows : List X) → not (list_any test rows) ≡ is_none (find test rows)
any_found test [] = refl
any_found test (row ∷ rows) = by_first (test row) (any_found test rows)
  where
    by_first : (b : Bool) → not (list_any test rows) ≡ is_none (find test rows) → not (b || list_any test rows) ≡ is_none (cond b (Some row) (find test rows))
    by_first true later = refl
    by_first false later = later

none_copied : {X : Type 0} (o : Option (Bor X)) (absent : Bool) → is_some o ≡ not absent → absent ≡ is_none (option_copied o)
none_copied None true is = refl
none_copied None false is = cc
none_copied (Some x) true is = cc
none_copied (Some x) false is = refl

pub upper_is : (rows : List RegionRow) (at : ℕ) (row : RegionRow) (upper : Id) (found : Option (Bor RegionRow)) (absent : Bool) → row.parent ≡ Some upper →
    option_copied found ≡ find_row id_cmp (λ r. r.id) upper (take at rows) → is_some found ≡ not absent →
    fault_if absent (fault.Absent kind.Region upper) ≡ upper_region_absent (take at rows) row
upper_is rows at row upper found absent names is none =
    ap (λ b. fault_if b (fault.Absent kind.Region upper))
    (none_copied found absent none ∙ ap (λ (o : Option RegionRow). is_none o) (is ∙ find_by_id (λ r. r.id) upper (take at rows))
    ∙ sym (any_found (λ r. same r.id upper) (take at rows)))
    ∙ sym (ap (λ (o : Option Id). upper_region_absent (take at rows) (record row { parent = o })) names)
