-- An index of rows that is built one row after the other.
use Rattle.std.proofs.Common.{◌≡◌, ℕ, suc, ◌+◌, ◌<◌, ◌≤◌, Bool, true, false, cond, List, [], ◌∷◌, ◌++◌, length, take, drop, get_or, Option, Some, None, IfSome, is_some, refl, sym, ap, subst, ◌∙◌, arith}
use std.Path.{fun_ext}
use denote.Ref.{Bor}
use Rattle.std.specs.declared.cmp.Ordering.{Ordering}
use Rattle.std.specs.declared.cmp.Ordering.TheVariants.{Less, Equal, Greater}
use Rattle.std.specs.Cmp.{IsTotalOrder}
use Rattle.std.specs.List.{AllByRecursion, list_any}
use Rattle.std.specs.Option.{option_copied, option_map, option_or}
use Rattle.std.specs.Slice.{IsItemAt}
use Rattle.std.specs.Ordering.{is_eq, ordering_reverse}
use Rattle.ks_base.specs.declared.kinds.Kind.{Kind}
use Rattle.ks_base.specs.Refusals.{fault_if}
use Rattle.ks_base.specs.Rows.{Id, same}
use Rattle.ks_base.specs.Tables.{find_row, has_key, id_cmp}
use Rattle.ks_base.proofs.RowLemmas.{id_same}
use Rattle.ks_base.proofs.OptionLemmas.{none_is}
use Rattle.ks_machine.specs.declared.settings.OpenFault.{OpenFault}
use Rattle.ks_machine.specs.declared.settings.OpenFault.TheVariants as fault
use Rattle.ks_machine.specs.Opened.{first_in, id_repeated}
use Rattle.std.specs.BTreeMap.{BTreeMap, IsEmpty, Updates, get}
use Rattle.std.proofs.lemmas.Cmp.{nat_list_cmp_total}
use Rattle.std.proofs.lemmas.List.{length-take-le, take_all, take_more}
use Rattle.std.proofs.lemmas.List.Folds.{list_any-append}
use Rattle.std.proofs.lemmas.Bool.{or_parts}
use Rattle.ks_opening.specs.steps.Indexed.{AreApart, IsIndex, place_of}
use Rattle.ks_opening.proofs.FindLemmas.{at_place, at_place_within, find_early, find_late, first_end, first_here, first_later, no_place, place_push, same_test, some_place}

eq_back : (o : Ordering) → is_eq (ordering_reverse o) ≡ is_eq o
eq_back Less = refl
eq_back Equal = refl
eq_back Greater = refl

-- a row that is put behind rows that have not its key
put_by : (b : Bool) (n : ℕ) (old : Option ℕ) → (b ≡ true → old ≡ None) → cond b (Some n) old ≡ option_or old (cond b (Some n) None)
put_by true n old none = let e = none refl in rw e refl
put_by false n None none = refl
put_by false n (Some i) none = refl

pub place_put : {K X : Type 0} (cmp : K → K → Ordering) (key : X → K) → IsTotalOrder cmp → (row : X) (rows : List X) (n : ℕ) (k : K) →
    place_of (has_key cmp key (key row)) rows ≡ None → n ≡ length rows →
    cond (is_eq (cmp (key row) k)) (Some n) (place_of (has_key cmp key k) rows) ≡ place_of (has_key cmp key k) (rows ++ row ∷ [])
place_put cmp key o row rows n k none long =
    put_by (is_eq (cmp (key row) k)) n (place_of (has_key cmp key k) rows) (λ is. sym (ap (λ (test : _ → Bool). place_of test rows) (same_test cmp key o (key row) k is)) ∙ none)
    ∙ ap (λ m. option_or (place_of (has_key cmp key k) rows) (cond (is_eq (cmp (key row) k)) (Some m) None)) long
    ∙ sym (place_push (has_key cmp key k) rows row)

none_by : (b : Bool) (o : Option ℕ) → cond b (Some 0) (option_map suc o) ≡ None → (b ≡ false) × (o ≡ None)
none_by true o none = cc
none_by false None none = (refl, refl)
none_by false (Some i) none = cc

-- then no two rows have one key
apart_by : {K X : Type 0} (cmp : K → K → Ordering) (key : X → K) → IsTotalOrder cmp → (low row : X) (rows : List X) → has_key cmp key (key row) low ≡ false →
    AllByRecursion (λ other. has_key cmp key (key low) other ≡ false) rows → AllByRecursion (λ other. has_key cmp key (key low) other ≡ false) (rows ++ row ∷ [])
apart_by cmp key o low row [] other all = (ap is_eq (o.antisymm (key row) (key low)) ∙ eq_back (cmp (key low) (key row)) ∙ other, tt)
apart_by cmp key o low row (next ∷ rows) other all = (all.0, apart_by cmp key o low row rows other all.1)

pub apart_push : {K X : Type 0} (cmp : K → K → Ordering) (key : X → K) → IsTotalOrder cmp → (row : X) (rows : List X) →
    place_of (has_key cmp key (key row)) rows ≡ None → AreApart cmp key rows → AreApart cmp key (rows ++ row ∷ [])
unfolding place_of
apart_push cmp key o row [] none apart = (tt, tt)
apart_push cmp key o row (next ∷ rows) none apart =
    let both = none_by (has_key cmp key (key row) next) (place_of (has_key cmp key (key row)) rows) none in
    (apart_by cmp key o next row rows both.0 apart.0, apart_push cmp key o row rows both.1 apart.1)

-- the fault of a repeated id
repeated_is : {R : Type 0} (kind : Kind) (key : R → Id) (before : List R) (row : R) →
    id_repeated kind key before row ≡ fault_if (is_some (place_of (has_key id_cmp key (key row)) before)) (fault.IdRepeated kind (key row))
repeated_is kind key before row =
    ap (λ b. fault_if b (fault.IdRepeated kind (key row)))
    (ap (λ (test : _ → Bool). list_any test before) (fun_ext (λ other. sym (id_same (key other) (key row)))) ∙ sym (some_place (has_key id_cmp key (key row)) before))

pub repeated_there : {R : Type 0} (kind : Kind) (key : R → Id) (before : List R) (row : R) → is_some (place_of (has_key id_cmp key (key row)) before) ≡ true →
    id_repeated kind key before row ≡ Some (fault.IdRepeated kind (key row))
repeated_there kind key before row some = repeated_is kind key before row ∙ ap (λ b. fault_if b (fault.IdRepeated kind (key row))) some

pub repeated_not : {R : Type 0} (kind : Kind) (key : R → Id) (before : List R) (row : R) → place_of (has_key id_cmp key (key row)) before ≡ None →
    id_repeated kind key before row ≡ None
repeated_not kind key before row none =
    repeated_is kind key before row ∙ ap (λ (o : Option ℕ). fault_if (is_some o) (fault.IdRepeated kind (key row))) none

-- rows by their places

lent : {X : Type 0} (o : Option (Bor X)) (rows : List X) (i : ℕ) → IsItemAt rows i o → i < length rows →
    (row : X) × (option_copied o ≡ Some row) × (row ≡ get_or rows i row)
lent None rows i is within = cc (is.2 within)
lent (Some row) rows i is within = (row.now, refl, is.1)

pub row_at : {X : Type 0} (key : X → Id) (rows : List X) (places : BTreeMap Id ℕ) (id : Id) (i : ℕ) (o : Option (Bor X)) → IsIndex key rows places →
    Some i ≡ get id_cmp places id → IsItemAt rows i o → option_copied o ≡ find_row id_cmp key id rows
unfolding find_row
row_at key rows places id i o index found is =
    let there : place_of (has_key id_cmp key id) rows ≡ Some i = sym (found ∙ index.finds id) in
    let row = lent o rows i is (at_place_within (has_key id_cmp key id) rows i there) in
    row.1 ∙ ap Some row.2 ∙ sym (at_place (has_key id_cmp key id) rows i row.0 there)

pub row_nowhere : {X : Type 0} (key : X → Id) (rows : List X) (places : BTreeMap Id ℕ) (id : Id) → IsIndex key rows places → None ≡ get id_cmp places id →
    None ≡ find_row id_cmp key id rows
unfolding find_row
row_nowhere key rows places id index none = sym (no_place (has_key id_cmp key id) rows (sym (none ∙ index.finds id)))

-- among the first rows
pub row_before : {X : Type 0} (key : X → Id) (rows : List X) (places : BTreeMap Id ℕ) (id : Id) (n i : ℕ) (o : Option (Bor X)) → IsIndex key rows places →
    Some i ≡ get id_cmp places id → IsItemAt rows i o → i < n → option_copied o ≡ find_row id_cmp key id (take n rows)
unfolding find_row
row_before key rows places id n i o index found is lt =
    row_at key rows places id i o index found is ∙ sym (find_early (has_key id_cmp key id) rows n i (sym (found ∙ index.finds id)) lt)

pub row_behind : {X : Type 0} (key : X → Id) (rows : List X) (places : BTreeMap Id ℕ) (id : Id) (n i : ℕ) → IsIndex key rows places →
    Some i ≡ get id_cmp places id → n ≤ i → None ≡ find_row id_cmp key id (take n rows)
unfolding find_row
row_behind key rows places id n i index found le =
    sym (find_late (has_key id_cmp key id) rows n (subst (λ (o : Option ℕ). IfSome o (λ j. n ≤ j)) (found ∙ index.finds id) le))

pub row_not_before : {X : Type 0} (key : X → Id) (rows : List X) (places : BTreeMap Id ℕ) (id : Id) (n : ℕ) → IsIndex key rows places →
    None ≡ get id_cmp places id → None ≡ find_row id_cmp key id (take n rows)
unfolding find_row
row_not_before key rows places id n index none =
    sym (find_late (has_key id_cmp key id) rows n (subst (λ (o : Option ℕ). IfSome o (λ j. n ≤ j)) (none ∙ index.finds id) tt))

-- an index of the first rows, none of which is at fault

pub record IsBuilt {R : Type 0} (kind : Kind) (key : R → Id) (rows : List R) (places : BTreeMap Id ℕ) (at : ℕ) : Type 0 where
  pub finds : (id : Id) → get id_cmp places id ≡ place_of (has_key id_cmp key id) (take at rows)
  pub apart : AreApart id_cmp key (take at rows)
  pub rest : first_in (id_repeated kind key) (take at rows) (drop at rows) ≡ first_in (id_repeated kind key) [] rows

pub built_none : {R : Type 0} (kind : Kind) (key : R → Id) (rows : List R) (places : BTreeMap Id ℕ) → IsEmpty places → IsBuilt kind key rows places 0
unfolding place_of
built_none kind key rows places empty = record { finds = λ id. rw empty refl; apart = tt; rest = refl }

pub built_more : {R : Type 0} (kind : Kind) (key : R → Id) (rows : List R) (places more : BTreeMap Id ℕ) (at : ℕ) (row : R) (id : Id) (earlier : Option ℕ) →
    at < length rows → row ≡ get_or rows at row → id ≡ key row → earlier ≡ get id_cmp places id → Updates id_cmp places more id (Some at) → is_some earlier ≡ false →
    IsBuilt kind key rows places at → IsBuilt kind key rows more (at + 1)
built_more kind key rows places more at row id earlier within is id_is old updates fresh built =
    let none : place_of (has_key id_cmp key (key row)) (take at rows) ≡ None =
    sym (built.finds (key row)) ∙ ap (get id_cmp places) (sym id_is) ∙ sym old ∙ none_is earlier fresh in
    let next : take (at + 1) rows ≡ take at rows ++ row ∷ [] = take_more rows at row within ∙ ap (λ (x : _). take at rows ++ x ∷ []) (sym is) in
    let long : at ≡ length (take at rows) = sym (length-take-le at rows (omega (arith, within))) in record {
      finds = λ other. updates.0 other ∙ ap (λ k. cond (is_eq (id_cmp k other)) (Some at) (get id_cmp places other)) id_is
          ∙ ap (cond (is_eq (id_cmp (key row) other)) (Some at)) (built.finds other)
          ∙ place_put id_cmp key nat_list_cmp_total row (take at rows) at other none long ∙ ap (place_of (has_key id_cmp key other)) (sym next);
      apart = subst (AreApart id_cmp key) (sym next) (apart_push id_cmp key nat_list_cmp_total row (take at rows) none built.apart);
      rest = sym (first_later (id_repeated kind key) rows at row within is (repeated_not kind key (take at rows) row none)) ∙ built.rest;
    }

pub built_fault : {R : Type 0} (kind : Kind) (key : R → Id) (rows : List R) (places : BTreeMap Id ℕ) (at : ℕ) (row : R) (id told : Id) (earlier : Option ℕ) →
    at < length rows → row ≡ get_or rows at row → id ≡ key row → told ≡ key row → earlier ≡ get id_cmp places id → is_some earlier ≡ true →
    IsBuilt kind key rows places at → first_in (id_repeated kind key) [] rows ≡ Some (fault.IdRepeated kind told)
built_fault kind key rows places at row id told earlier within is id_is told_is old stands built =
    let some : is_some (place_of (has_key id_cmp key (key row)) (take at rows)) ≡ true =
    ap is_some (sym (built.finds (key row)) ∙ ap (get id_cmp places) (sym id_is) ∙ sym old) ∙ stands in
    sym built.rest ∙ first_here (id_repeated kind key) rows at row (fault.IdRepeated kind (key row)) within is (repeated_there kind key (take at rows) row some)
    ∙ ap (λ k. Some (fault.IdRepeated kind k)) (sym told_is)

pub built_end : {R : Type 0} (kind : Kind) (key : R → Id) (rows : List R) (places : BTreeMap Id ℕ) (at : ℕ) → length rows ≤ at → IsBuilt kind key rows places at →
    first_in (id_repeated kind key) [] rows ≡ None
built_end kind key rows places at end built = sym built.rest ∙ first_end (id_repeated kind key) rows at end

pub built_all : {R : Type 0} (kind : Kind) (key : R → Id) (rows : List R) (places : BTreeMap Id ℕ) (at : ℕ) → length rows ≤ at → IsBuilt kind key rows places at →
    IsIndex key rows places
built_all kind key rows places at end built =
    let all : take at rows ≡ rows = take_all at rows end in record {
      finds = λ id. built.finds id ∙ ap (place_of (has_key id_cmp key id)) all;
      apart = subst (AreApart id_cmp key) all built.apart;
    }

-- where no id is repeated, no two rows have one id

not_repeated : (b : Bool) (why : OpenFault) (rest : Option OpenFault) → option_or (fault_if b why) rest ≡ None → (b ≡ false) × (rest ≡ None)
not_repeated true why rest none = cc
not_repeated false why rest none = (refl, none)

abbrev IsNew : {R : Type 0} → (R → Id) → List R → R → Type 0
IsNew key before row = list_any (λ other. same (key other) (key row)) before ≡ false

earlier_new : {R : Type 0} (key : R → Id) (before : List R) (row : R) (rows : List R) → AllByRecursion (IsNew key (before ++ row ∷ [])) rows →
    AllByRecursion (IsNew key before) rows
earlier_new key before row [] all = tt
earlier_new key before row (next ∷ rows) all =
    let test : _ → Bool = λ other. same (key other) (key next) in
    ((or_parts (list_any test before) (list_any test (row ∷ [])) (sym (list_any-append test before (row ∷ [])) ∙ all.0)).0, earlier_new key before row rows all.1)

apart_new : {R : Type 0} (key : R → Id) (before : List R) (row : R) (rows : List R) → AllByRecursion (IsNew key (before ++ row ∷ [])) rows →
    AllByRecursion (λ other. has_key id_cmp key (key row) other ≡ false) rows
apart_new key before row [] all = tt
apart_new key before row (next ∷ rows) all =
    let test : _ → Bool = λ other. same (key other) (key next) in
    let both = or_parts (list_any test before) (list_any test (row ∷ [])) (sym (list_any-append test before (row ∷ [])) ∙ all.0) in
    let apart = (or_parts (same (key row) (key next)) false both.1).0 in (
      ap is_eq (nat_list_cmp_total.antisymm (key next) (key row)) ∙ eq_back (id_cmp (key row) (key next)) ∙ id_same (key row) (key next) ∙ apart,
      apart_new key before row rows all.1,
    )

new_and_apart : {R : Type 0} (kind : Kind) (key : R → Id) (before rows : List R) → first_in (id_repeated kind key) before rows ≡ None →
    AllByRecursion (IsNew key before) rows × AreApart id_cmp key rows
unfolding first_in
new_and_apart kind key before [] none = (tt, tt)
new_and_apart kind key before (row ∷ rows) none =
    let both = not_repeated (list_any (λ other. same (key other) (key row)) before) (fault.IdRepeated kind (key row))
    (first_in (id_repeated kind key) (before ++ row ∷ []) rows) none in
    let later = new_and_apart kind key (before ++ row ∷ []) rows both.1 in
    ((both.0, earlier_new key before row rows later.0), (apart_new key before row rows later.0, later.1))

pub apart_if_new : {R : Type 0} (kind : Kind) (key : R → Id) (rows : List R) → first_in (id_repeated kind key) [] rows ≡ None → AreApart id_cmp key rows
apart_if_new kind key rows none = (new_and_apart kind key [] rows none).1
