-- Rows that are put into a table in any order: where no two of them have one key, the table is the same.
use Rattle.std.proofs.Common.{◌≡◌, Bool, true, false, cond, inl, inr, List, [], ◌∷◌, ◌++◌, length, Option, Some, None, refl, sym, ap, subst, ◌∙◌, arith}
use Rattle.std.specs.declared.cmp.Ordering.{Ordering}
use Rattle.std.specs.declared.cmp.Ordering.TheVariants.{Less, Equal, Greater}
use Rattle.std.specs.Cmp.{IsTotalOrder}
use Rattle.std.specs.List.{AllByRecursion, find}
use Rattle.std.specs.List.Sorted.{IsPermutation}
use Rattle.std.specs.Ordering.{is_eq, ordering_reverse}
use Rattle.std.proofs.lemmas.Cmp.{alike_right, tied_back, tied_itself}
use Rattle.std.proofs.lemmas.List.Sorted.{IsPermutation-sym}
use Rattle.ks_base.specs.Tables.{Among, AreAbove, IsAscending, find_row, has_key, put_row}
use Rattle.ks_base.proofs.RowLemmas.{eq_is, find_above, find_put, find_put_other, found_among, none_among}
use Rattle.ks_base.proofs.TableLemmas.{ascending_put}
use Rattle.ks_base.proofs.AmongLemmas.{all_among}
use Rattle.ks_base.proofs.LinkLemmas.{among_moved}
use Rattle.ks_machine.specs.Opened.{put_all}
use Rattle.ks_opening.specs.steps.Indexed.{AreApart}
use Rattle.ks_opening.proofs.FindLemmas.{same_test}

-- all rows put ascend, and are found as in their list

pub ascending_all : {K X : Type 0} (cmp : K → K → Ordering) (key : X → K) → IsTotalOrder cmp → (rows : List X) →
    IsAscending cmp key (put_all (put_row cmp key) rows)
ascending_all cmp key o [] = tt
ascending_all cmp key o (row ∷ rows) = ascending_put cmp key o row (put_all (put_row cmp key) rows) (ascending_all cmp key o rows)

find_all_by : {K X : Type 0} (cmp : K → K → Ordering) (key : X → K) → IsTotalOrder cmp → (k : K) (row : X) (rest rows : List X) (b : Bool) →
    is_eq (cmp (key row) k) ≡ b → find (has_key cmp key k) rest ≡ find (has_key cmp key k) rows →
    find (has_key cmp key k) (put_row cmp key row rest) ≡ cond b (Some row) (find (has_key cmp key k) rows)
unfolding find_row
find_all_by cmp key o k row rest rows true is same =
    ap (λ (test : _ → Bool). find test (put_row cmp key row rest)) (sym (same_test cmp key o (key row) k is)) ∙ find_put cmp key o row rest
find_all_by cmp key o k row rest rows false is same = find_put_other cmp key o k row rest is ∙ same

pub find_all : {K X : Type 0} (cmp : K → K → Ordering) (key : X → K) → IsTotalOrder cmp → (k : K) (rows : List X) →
    find_row cmp key k (put_all (put_row cmp key) rows) ≡ find_row cmp key k rows
unfolding find_row
find_all cmp key o k [] = refl
find_all cmp key o k (row ∷ rows) =
    find_all_by cmp key o k row (put_all (put_row cmp key) rows) rows (is_eq (cmp (key row) k)) refl (find_all cmp key o k rows)

-- tables in which each key finds the same are the same

find_low : {K X : Type 0} (cmp : K → K → Ordering) (key : X → K) → IsTotalOrder cmp → (k low : K) (rows : List X) → cmp k low ≡ Less →
    AreAbove cmp key low rows → find (has_key cmp key k) rows ≡ None
find_low cmp key o k low [] is above = refl
find_low cmp key o k low (row ∷ rows) is above =
    let greater : cmp (key row) k ≡ Greater = o.antisymm (key row) k ∙ ap ordering_reverse (o.trans k low (key row) is above.0) in
    rw greater (find_low cmp key o k low rows is above.1)

found_first : {K X : Type 0} (cmp : K → K → Ordering) (key : X → K) (k : K) (row : X) (rows : List X) → cmp (key row) k ≡ Equal →
    find (has_key cmp key k) (row ∷ rows) ≡ Some row
found_first cmp key k row rows is = rw is refl

none_lower : {K X : Type 0} (cmp : K → K → Ordering) (key : X → K) → IsTotalOrder cmp → (row next : X) (rows : List X) → cmp (key row) (key next) ≡ Less →
    AreAbove cmp key (key next) rows → find (has_key cmp key (key row)) (next ∷ rows) ≡ None
none_lower cmp key o row next rows is above =
    let greater : cmp (key next) (key row) ≡ Greater = o.antisymm (key next) (key row) ∙ ap ordering_reverse is in
    rw greater (find_low cmp key o (key row) (key next) rows is above)

tails_by : {K X : Type 0} (cmp : K → K → Ordering) (key : X → K) → IsTotalOrder cmp → (k : K) (row : X) (rows others : List X) (b : Bool) → is_eq (cmp (key row) k) ≡ b →
    AreAbove cmp key (key row) rows → AreAbove cmp key (key row) others →
    cond b (Some row) (find (has_key cmp key k) rows) ≡ cond b (Some row) (find (has_key cmp key k) others) →
    find (has_key cmp key k) rows ≡ find (has_key cmp key k) others
tails_by cmp key o k row rows others true is above also same =
    let tied = eq_is (cmp (key row) k) is in
    find_above cmp key o k (key row) rows tied above ∙ sym (find_above cmp key o k (key row) others tied also)
tails_by cmp key o k row rows others false is above also same = same

same_rows_by : {K X : Type 0} (cmp : K → K → Ordering) (key : X → K) → IsTotalOrder cmp → (row next : X) (rows others : List X) (is : Ordering) →
    cmp (key row) (key next) ≡ is → IsAscending cmp key (row ∷ rows) → IsAscending cmp key (next ∷ others) →
    ((k : K) → find (has_key cmp key k) (row ∷ rows) ≡ find (has_key cmp key k) (next ∷ others)) →
    (((k : K) → find (has_key cmp key k) rows ≡ find (has_key cmp key k) others) → rows ≡ others) → row ∷ rows ≡ next ∷ others
same_rows_by cmp key o row next rows others Less is up upper same later =
    let none = none_lower cmp key o row next others is upper.0 in
    let some = found_first cmp key (key row) row rows (tied_itself o (key row)) in
    let alike = same (key row) in
    cc
same_rows_by cmp key o row next rows others Greater is up upper same later =
    let less : cmp (key next) (key row) ≡ Less = o.antisymm (key next) (key row) ∙ ap ordering_reverse is in
    let none = none_lower cmp key o next row rows less up.0 in
    let some = found_first cmp key (key next) next others (tied_itself o (key next)) in
    let alike = same (key next) in
    cc
same_rows_by cmp key o row next rows others Equal is up upper same later =
    let left = found_first cmp key (key row) row rows (tied_itself o (key row)) in
    let right = found_first cmp key (key row) next others (tied_back o (key row) (key next) is) in
    let alike = same (key row) in
    let first : next ≡ row = cc in
    let above : AreAbove cmp key (key row) others = subst (λ (x : _). AreAbove cmp key (key x) others) first upper.0 in
    let rest = later (λ k. tails_by cmp key o k row rows others (is_eq (cmp (key row) k)) refl up.0 above
    (same k ∙ ap (λ (x : _). find (has_key cmp key k) (x ∷ others)) first)) in
    ap (λ (l : List _). row ∷ l) rest ∙ ap (λ (x : _). x ∷ others) (sym first)

same_rows : {K X : Type 0} (cmp : K → K → Ordering) (key : X → K) → IsTotalOrder cmp → (rows others : List X) → IsAscending cmp key rows →
    IsAscending cmp key others → ((k : K) → find (has_key cmp key k) rows ≡ find (has_key cmp key k) others) → rows ≡ others
same_rows cmp key o [] [] up upper same = refl
same_rows cmp key o [] (next ∷ others) up upper same =
    let some = found_first cmp key (key next) next others (tied_itself o (key next)) in
    let alike = same (key next) in
    cc
same_rows cmp key o (row ∷ rows) [] up upper same =
    let some = found_first cmp key (key row) row rows (tied_itself o (key row)) in
    let alike = same (key row) in
    cc
same_rows cmp key o (row ∷ rows) (next ∷ others) up upper same =
    same_rows_by cmp key o row next rows others (cmp (key row) (key next)) refl up upper same (λ later. same_rows cmp key o rows others up.1 upper.1 later)

-- a list in another order

-- the key of a row tells it among these
abbrev pub TellRows : {K X : Type 0} → (K → K → Ordering) → (X → K) → List X → Type 0
TellRows {K} {X} cmp key rows = (a b : X) → Among rows a → Among rows b → cmp (key a) (key b) ≡ Equal → a ≡ b

apart_from : {K X : Type 0} (cmp : K → K → Ordering) (key : X → K) (low row : X) (rows : List X) →
    AllByRecursion (λ other. has_key cmp key (key low) other ≡ false) rows → Among rows row → cmp (key row) (key low) ≡ Equal → ⊥
apart_from cmp key low row rows all among is =
    let other = all_among (λ next. has_key cmp key (key low) next ≡ false) rows row all among in
    let tied : is_eq (cmp (key row) (key low)) ≡ true = ap is_eq is in
    cc

pub apart_tells : {K X : Type 0} (cmp : K → K → Ordering) (key : X → K) → IsTotalOrder cmp → (rows : List X) → AreApart cmp key rows → TellRows cmp key rows
apart_tells cmp key o [] apart a b first second is = absurd first
apart_tells cmp key o (row ∷ rows) apart a b (inl left) (inl right) is = sym left ∙ right
apart_tells cmp key o (row ∷ rows) apart a b (inl left) (inr second) is =
    absurd (apart_from cmp key row b rows apart.0 second (tied_back o (key row) (key b) (ap (λ (x : _). cmp (key x) (key b)) left ∙ is)))
apart_tells cmp key o (row ∷ rows) apart a b (inr first) (inl right) is =
    absurd (apart_from cmp key row a rows apart.0 first (ap (λ (x : _). cmp (key a) (key x)) right ∙ is))
apart_tells cmp key o (row ∷ rows) apart a b (inr first) (inr second) is = apart_tells cmp key o rows apart.1 a b first second is

found_there : {K X : Type 0} (cmp : K → K → Ordering) (key : X → K) (k : K) (rows others : List X) (row : X) → find_row cmp key k rows ≡ Some row →
    find_row cmp key k others ≡ None → (Among rows row → Among others row) → ⊥
unfolding find_row
found_there cmp key k rows others row some none into =
    let both = found_among cmp key k rows row some in
    let fails = none_among (has_key cmp key k) others row none (into both.0) in
    let tied : is_eq (cmp (key row) k) ≡ true = ap is_eq both.1 in
    cc

moved_by : {K X : Type 0} (cmp : K → K → Ordering) (key : X → K) → IsTotalOrder cmp → (k : K) (rows moved : List X) (a b : Option X) → TellRows cmp key rows →
    IsPermutation rows moved → find_row cmp key k rows ≡ a → find_row cmp key k moved ≡ b → b ≡ a
moved_by cmp key o k rows moved None None tell is left right = refl
moved_by cmp key o k rows moved (Some row) None tell is left right =
    absurd (found_there cmp key k rows moved row left right (among_moved moved rows row (IsPermutation-sym rows moved is)))
moved_by cmp key o k rows moved None (Some row) tell is left right =
    absurd (found_there cmp key k moved rows row right left (among_moved rows moved row is))
moved_by cmp key o k rows moved (Some row) (Some next) tell is left right =
    let first = found_among cmp key k rows row left in
    let second = found_among cmp key k moved next right in
    ap Some (tell next row (among_moved rows moved next is second.0) first.0
    (alike_right o (key row) k (key next) first.1 ∙ second.1))

-- the table of rows in any order
pub put_moved : {K X : Type 0} (cmp : K → K → Ordering) (key : X → K) → IsTotalOrder cmp → (rows moved : List X) → TellRows cmp key rows → IsPermutation rows moved →
    put_all (put_row cmp key) moved ≡ put_all (put_row cmp key) rows
unfolding find_row
put_moved cmp key o rows moved tell is =
    same_rows cmp key o (put_all (put_row cmp key) moved) (put_all (put_row cmp key) rows) (ascending_all cmp key o moved) (ascending_all cmp key o rows)
    (λ k. find_all cmp key o k moved ∙ moved_by cmp key o k rows moved (find_row cmp key k rows) (find_row cmp key k moved) tell is refl refl
    ∙ sym (find_all cmp key o k rows))

-- the last row of a list is put first

abbrev pub put_onto : {R : Type 0} → (R → List R → List R) → List R → List R → List R
put_onto put table [] = table
put_onto put table (row ∷ rows) = put row (put_onto put table rows)

pub onto_none : {R : Type 0} (put : R → List R → List R) (rows : List R) → put_onto put [] rows ≡ put_all put rows
onto_none put [] = refl
onto_none put (row ∷ rows) = ap (put row) (onto_none put rows)

pub onto_last : {R : Type 0} (put : R → List R → List R) (table rows : List R) (row : R) → put_onto put table (rows ++ row ∷ []) ≡ put_onto put (put row table) rows
onto_last put table [] row = refl
onto_last put table (next ∷ rows) row = ap (put next) (onto_last put table rows row)

pub onto_more : {R : Type 0} (put : R → List R → List R) (table more rows rest all : List R) (row : R) → rows ≡ rest ++ row ∷ [] → more ≡ put row table →
    put_onto put table rows ≡ all → put_onto put more rest ≡ all
onto_more put table more rows rest all row is put_is so_far =
    ap (λ (t : List _). put_onto put t rest) put_is ∙ sym (onto_last put table rest row) ∙ ap (put_onto put table) (sym is) ∙ so_far

pub onto_end : {R : Type 0} (put : R → List R → List R) (table rows all : List R) → length rows ≡ 0 → put_onto put table rows ≡ all → table ≡ all
onto_end put table [] all none so_far = so_far
onto_end put table (row ∷ rows) all none so_far = absurd (omega (arith, none))
