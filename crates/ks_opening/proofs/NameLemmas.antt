-- Names that are taken, one row after the other.
use Rattle.std.proofs.Common.{◌≡◌, ℕ, ◌+◌, ◌<◌, ◌≤◌, Bool, true, false, ◌&&◌, cond, List, [], ◌∷◌, ◌++◌, length, take, drop, get_or, Option, Some, None, refl, sym, ap, ◌∙◌}
use std.Path.{fun_ext}
use denote.Ref.{Bor}
use Rattle.std.specs.BTreeMap.{BTreeMap, Updates, get}
use Rattle.std.specs.declared.cmp.Ordering.{Ordering}
use Rattle.std.specs.declared.cmp.Ordering.TheVariants.{Less, Equal, Greater}
use Rattle.std.specs.Cmp.{IsTotalOrder}
use Rattle.std.specs.List.{find}
use Rattle.std.specs.Option.{option_map, option_or}
use Rattle.std.specs.Ordering.{is_eq, ordering_then}
use Rattle.std.proofs.lemmas.Cmp.{nat_list_cmp_total, on_total, then_total}
use Rattle.std.proofs.lemmas.List.{take_more}
use Rattle.std.proofs.lemmas.List.Folds.{find-append}
use Rattle.ks_base.specs.declared.kinds.Kind.{Kind}
use Rattle.ks_base.specs.Rows.{Id, Text, same}
use Rattle.ks_base.specs.Tables.{has_key, id_cmp}
use Rattle.ks_base.proofs.RowLemmas.{id_same}
use Rattle.ks_machine.specs.declared.settings.OpenFault.{OpenFault}
use Rattle.ks_machine.specs.declared.settings.OpenFault.TheVariants as fault
use Rattle.ks_machine.specs.Opened.{first_in, name_repeated}
use Rattle.ks_opening.specs.steps.Indexed.{has_name_of}
use Rattle.ks_opening.proofs.FindLemmas.{first_end, first_here, first_later, same_test}
use Rattle.ks_base.proofs.PairLemmas.{then_both}

-- homes and names in their order

abbrev Full : Type 0
Full = Id × Text

abbrev Lent : Type 0
Lent = Bor Id × Bor Text

abbrev pub full_cmp : Full → Full → Ordering
full_cmp a b = ordering_then (id_cmp a.0 b.0) (id_cmp a.1 b.1)

abbrev pub lent_cmp : Lent → Lent → Ordering
lent_cmp a b = ordering_then (id_cmp a.0.now b.0.now) (id_cmp a.1.now b.1.now)

full_total : IsTotalOrder full_cmp
full_total = then_total (on_total (λ t. t.0) nat_list_cmp_total) (on_total (λ t. t.1) nat_list_cmp_total)

abbrev pub full_of : {R : Type 0} → (R → Id) → (R → Text) → R → Full
full_of home name row = (home row, name row)

-- a row has the name of another exactly if it is found by it
named_is : {R : Type 0} (home : R → Id) (name : R → Text) (row other : R) →
    has_key full_cmp (full_of home name) (home row, name row) other ≡ has_name_of home name row other
named_is home name row other =
    then_both (id_cmp (home other) (home row)) (id_cmp (name other) (name row))
    ∙ ap (λ b. b && is_eq (id_cmp (name other) (name row))) (id_same (home other) (home row))
    ∙ ap (λ b. same (home other) (home row) && b) (id_same (name other) (name row))

-- a row that is put behind rows that have not its key

put_by : {X Y : Type 0} (b : Bool) (row : X) (old : Option X) (f : X → Y) → (b ≡ true → old ≡ None) →
    cond b (Some (f row)) (option_map f old) ≡ option_map f (option_or old (cond b (Some row) None))
put_by true row old f none = let e = none refl in rw e refl
put_by false row None f none = refl
put_by false row (Some x) f none = refl

find_put : {K X Y : Type 0} (cmp : K → K → Ordering) (key : X → K) (f : X → Y) → IsTotalOrder cmp → (row : X) (rows : List X) (k : K) →
    find (has_key cmp key (key row)) rows ≡ None →
    cond (is_eq (cmp (key row) k)) (Some (f row)) (option_map f (find (has_key cmp key k) rows)) ≡ option_map f (find (has_key cmp key k) (rows ++ row ∷ []))
find_put cmp key f o row rows k none =
    put_by (is_eq (cmp (key row) k)) row (find (has_key cmp key k) rows) f (λ is. sym (ap (λ (test : _ → Bool). find test rows) (same_test cmp key o (key row) k is)) ∙ none)
    ∙ ap (option_map f) (sym (find-append (has_key cmp key k) rows (row ∷ [])))

-- the ids of the first rows by their names, none of which is taken

abbrev fault_of : {R : Type 0} → Kind → (R → Id) → (R → Id) → (R → Text) → List R → R → Option OpenFault
fault_of kind id home name = name_repeated kind id (has_name_of home name)

pub record IsNamed {R : Type 0} (kind : Kind) (id home : R → Id) (name : R → Text) (rows : List R) (named : BTreeMap Lent Id) (at : ℕ) : Type 0 where
  pub finds : (q : Lent) → get lent_cmp named q ≡ option_map id (find (has_key full_cmp (full_of home name) (q.0.now, q.1.now)) (take at rows))
  pub rest : first_in (fault_of kind id home name) (take at rows) (drop at rows) ≡ first_in (fault_of kind id home name) [] rows

-- what stood under the name of a row tells its fault
taken : {R : Type 0} (kind : Kind) (id home : R → Id) (name : R → Text) (rows : List R) (named : BTreeMap Lent Id) (at : ℕ) (row : R) (key : Lent)
    (earlier : Option Id) → key.0.now ≡ home row → key.1.now ≡ name row → earlier ≡ get lent_cmp named key → IsNamed kind id home name rows named at →
    earlier ≡ option_map id (find (has_key full_cmp (full_of home name) (home row, name row)) (take at rows))
taken kind id home name rows named at row key earlier home_is name_is old is =
    old ∙ is.finds key
    ∙ ap (λ (k : Id). option_map id (find (has_key full_cmp (full_of home name) (k, key.1.now)) (take at rows))) home_is
    ∙ ap (λ (k : Text). option_map id (find (has_key full_cmp (full_of home name) (home row, k)) (take at rows))) name_is

map_twice : {X Y Z : Type 0} (f : Y → Z) (g : X → Y) (o : Option X) → option_map (λ x. f (g x)) o ≡ option_map f (option_map g o)
map_twice f g None = refl
map_twice f g (Some x) = refl

fault_is : {R : Type 0} (kind : Kind) (id home : R → Id) (name : R → Text) (before : List R) (row : R) (earlier : Option Id) →
    earlier ≡ option_map id (find (has_key full_cmp (full_of home name) (home row, name row)) before) →
    fault_of kind id home name before row ≡ option_map (fault.Name kind) earlier
fault_is kind id home name before row earlier is =
    ap (λ (test : _ → Bool). option_map (λ other. fault.Name kind (id other)) (find test before)) (fun_ext (λ other. sym (named_is home name row other)))
    ∙ map_twice (fault.Name kind) id (find (has_key full_cmp (full_of home name) (home row, name row)) before)
    ∙ ap (option_map (fault.Name kind)) (sym is)

nothing : {X Y : Type 0} (f : X → Y) (o : Option X) → None ≡ option_map f o → o ≡ None
nothing f None e = refl
nothing f (Some x) e = cc

pub named_more : {R : Type 0} (kind : Kind) (id home : R → Id) (name : R → Text) (rows : List R) (named more : BTreeMap Lent Id) (at : ℕ) (row : R) (key : Lent)
    (told : Id) → at < length rows → row ≡ get_or rows at row → key.0.now ≡ home row → key.1.now ≡ name row → told ≡ id row → None ≡ get lent_cmp named key →
    Updates lent_cmp named more key (Some told) → IsNamed kind id home name rows named at → IsNamed kind id home name rows more (at + 1)
named_more kind id home name rows named more at row key told within is home_is name_is told_is old updates named_so =
    let none = taken kind id home name rows named at row key None home_is name_is old named_so in
    let next : take (at + 1) rows ≡ take at rows ++ row ∷ [] = take_more rows at row within ∙ ap (λ (x : _). take at rows ++ x ∷ []) (sym is) in record {
      finds = λ q. updates.0 q
          ∙ ap (λ (h : Id). cond (is_eq (ordering_then (id_cmp h q.0.now) (id_cmp key.1.now q.1.now))) (Some told) (get lent_cmp named q)) home_is
          ∙ ap (λ (n : Text). cond (is_eq (ordering_then (id_cmp (home row) q.0.now) (id_cmp n q.1.now))) (Some told) (get lent_cmp named q)) name_is
          ∙ ap (λ (i : Id). cond (is_eq (full_cmp (home row, name row) (q.0.now, q.1.now))) (Some i) (get lent_cmp named q)) told_is
          ∙ ap (cond (is_eq (full_cmp (home row, name row) (q.0.now, q.1.now))) (Some (id row))) (named_so.finds q)
          ∙ find_put full_cmp (full_of home name) id full_total row (take at rows) (q.0.now, q.1.now) (nothing id _ none)
          ∙ ap (λ (xs : List _). option_map id (find (has_key full_cmp (full_of home name) (q.0.now, q.1.now)) xs)) (sym next);
      rest = sym (first_later (fault_of kind id home name) rows at row within is (fault_is kind id home name (take at rows) row None none)) ∙ named_so.rest;
    }

pub named_fault : {R : Type 0} (kind : Kind) (id home : R → Id) (name : R → Text) (rows : List R) (named : BTreeMap Lent Id) (at : ℕ) (row : R) (key : Lent)
    (earlier : Id) → at < length rows → row ≡ get_or rows at row → key.0.now ≡ home row → key.1.now ≡ name row → Some earlier ≡ get lent_cmp named key →
    IsNamed kind id home name rows named at → first_in (fault_of kind id home name) [] rows ≡ Some (fault.Name kind earlier)
named_fault kind id home name rows named at row key earlier within is home_is name_is old named_so =
    let stands = taken kind id home name rows named at row key (Some earlier) home_is name_is old named_so in
    sym named_so.rest ∙ first_here (fault_of kind id home name) rows at row (fault.Name kind earlier) within is
    (fault_is kind id home name (take at rows) row (Some earlier) stands)

pub named_end : {R : Type 0} (kind : Kind) (id home : R → Id) (name : R → Text) (rows : List R) (named : BTreeMap Lent Id) (at : ℕ) → length rows ≤ at →
    IsNamed kind id home name rows named at → first_in (fault_of kind id home name) [] rows ≡ None
named_end kind id home name rows named at end named_so = sym named_so.rest ∙ first_end (fault_of kind id home name) rows at end
