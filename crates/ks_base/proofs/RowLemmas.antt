-- What a table holds after each change, for the crates above.
use Rattle.std.proofs.Common.{◌≡◌, ℕ, ◌+◌, Bool, true, false, not, cond, ◌⊎◌, inl, inr, List, [], ◌∷◌, length, Option, Some, None, is_some, refl, sym, ap, subst, ◌∙◌, arith}
use Rattle.std.specs.declared.cmp.Ordering.{Ordering}
use Rattle.std.specs.declared.cmp.Ordering.TheVariants.{Less, Equal, Greater}
use Rattle.std.specs.Bool.{Decides}
use Rattle.std.specs.List.{find, filter}
use Rattle.std.specs.Ordering.{is_eq, ordering_reverse}
use Rattle.std.specs.Cmp.{IsTotalOrder}
use Rattle.std.specs.Str.{bytes_eq}
use Rattle.std.proofs.lemmas.Cmp.{tied_itself, nat_list_cmp_total}
use Rattle.std.proofs.lemmas.Slice.Eq.{bytes_eq-Decides}
use Rattle.ks_base.specs.Tables.{id_cmp, AreAbove, IsAscending, has_key, find_row, drop_row, put_by, put_row, Among, passing}
use Rattle.ks_base.specs.OrderLaws.{id_exact}
use Rattle.ks_base.proofs.OptionLemmas.{some_is}

-- ids are the same to their order and as bytes
same_tests : (o : Ordering) (b : Bool) → (o ≡ Equal → b ≡ true) → (b ≡ true → o ≡ Equal) → is_eq o ≡ b
same_tests Less true h k = cc (k refl)
same_tests Less false h k = refl
same_tests Equal b h k = sym (h refl)
same_tests Greater true h k = cc (k refl)
same_tests Greater false h k = refl

pub id_same : (a b : List ℕ) → is_eq (id_cmp a b) ≡ bytes_eq a b
id_same a b =
    same_tests (id_cmp a b) (bytes_eq a b) (λ e. (bytes_eq-Decides a b).1 (id_exact a b e))
    (λ t. let e = (bytes_eq-Decides a b).0 t in rw e (tied_itself nat_list_cmp_total b))

pub find_alike : {X : Type 0} (p q : X → Bool) → ((row : X) → p row ≡ q row) → (rows : List X) → find p rows ≡ find q rows
find_alike p q same [] = refl
find_alike p q same (row ∷ rows) = rw (same row) (ap (cond (q row) (Some row)) (find_alike p q same rows))

-- what is not found is not there
none_among_by : {X : Type 0} (test : X → Bool) (next row : X) (rows : List X) (b : Bool) → test next ≡ b → cond b (Some next) (find test rows) ≡ None →
    Among (next ∷ rows) row → (find test rows ≡ None → Among rows row → test row ≡ false) → test row ≡ false
none_among_by test next row rows true is none among later = cc
none_among_by test next row rows false is none (inl same) later = ap test (sym same) ∙ is
none_among_by test next row rows false is none (inr among) later = later none among

pub none_among : {X : Type 0} (test : X → Bool) (rows : List X) (row : X) → find test rows ≡ None → Among rows row → test row ≡ false
none_among test [] row none among = absurd among
none_among test (next ∷ rows) row none among = none_among_by test next row rows (test next) refl none among (none_among test rows row)

-- a look-up by id is the first row whose id has these bytes
pub find_by_id : {X : Type 0} (key : X → List ℕ) (id : List ℕ) (rows : List X) → find_row id_cmp key id rows ≡ find (λ row. bytes_eq (key row) id) rows
unfolding find_row
find_by_id key id rows = find_alike (has_key id_cmp key id) (λ row. bytes_eq (key row) id) (λ row. id_same (key row) id) rows

-- a row is found after it is put
find_put_by : {K X : Type 0} (cmp : K → K → Ordering) (key : X → K) → IsTotalOrder cmp → (row next : X) (rows behind : List X) (is : Ordering) →
    cmp (key next) (key row) ≡ is → find (has_key cmp key (key row)) behind ≡ Some row →
    find (has_key cmp key (key row)) (put_by is row next rows behind) ≡ Some row
find_put_by cmp key o row next rows behind Less e found = rw e found
find_put_by cmp key o row next rows behind Equal e found = rw (tied_itself o (key row)) refl
find_put_by cmp key o row next rows behind Greater e found = rw (tied_itself o (key row)) refl

pub find_put : {K X : Type 0} (cmp : K → K → Ordering) (key : X → K) → IsTotalOrder cmp → (row : X) (rows : List X) →
    find_row cmp key (key row) (put_row cmp key row rows) ≡ Some row
unfolding find_row put_row
find_put cmp key o row [] = rw (tied_itself o (key row)) refl
find_put cmp key o row (next ∷ rows) =
    find_put_by cmp key o row next rows (put_row cmp key row rows) (cmp (key next) (key row)) refl (find_put cmp key o row rows)

-- and rows with other keys as before
find_put_other_by : {K X : Type 0} (cmp : K → K → Ordering) (key : X → K) → IsTotalOrder cmp → (k : K) (row next : X) (rows behind : List X) (is : Ordering) →
    cmp (key next) (key row) ≡ is → is_eq (cmp (key row) k) ≡ false → find (has_key cmp key k) behind ≡ find (has_key cmp key k) rows →
    find (has_key cmp key k) (put_by is row next rows behind) ≡ find (has_key cmp key k) (next ∷ rows)
find_put_other_by cmp key o k row next rows behind Less e other same = ap (cond (is_eq (cmp (key next) k)) (Some next)) same
find_put_other_by cmp key o k row next rows behind Equal e other same =
    let also : is_eq (cmp (key next) k) ≡ false = ap is_eq (o.congr (key next) (key row) k e) ∙ other in
    rw (other, also) refl
find_put_other_by cmp key o k row next rows behind Greater e other same = rw other refl

pub find_put_other : {K X : Type 0} (cmp : K → K → Ordering) (key : X → K) → IsTotalOrder cmp → (k : K) (row : X) (rows : List X) →
    is_eq (cmp (key row) k) ≡ false → find_row cmp key k (put_row cmp key row rows) ≡ find_row cmp key k rows
unfolding find_row put_row
find_put_other cmp key o k row [] other = rw other refl
find_put_other cmp key o k row (next ∷ rows) other =
    find_put_other_by cmp key o k row next rows (put_row cmp key row rows) (cmp (key next) (key row)) refl other (find_put_other cmp key o k row rows other)

find_passed_by : {X : Type 0} (p q : X → Bool) (row : X) (rows others : List X) (b : Bool) → q row ≡ b → (p row ≡ true → q row ≡ true) →
    find p rows ≡ find p others → find p (cond b (row ∷ rows) rows) ≡ find p (row ∷ others)
find_passed_by p q row rows others true e pass same = ap (cond (p row) (Some row)) same
find_passed_by p q row rows others false e pass same = fails (p row) refl
  where
    fails : (b : Bool) → p row ≡ b → find p rows ≡ cond b (Some row) (find p others)
    fails true is = cc (pass is)
    fails false is = same

-- leaving out what is not looked for changes no look-up
pub find_passed : {X : Type 0} (p q : X → Bool) → ((row : X) → p row ≡ true → q row ≡ true) → (rows : List X) → find p (filter q rows) ≡ find p rows
find_passed p q pass [] = refl
find_passed p q pass (row ∷ rows) = find_passed_by p q row (filter q rows) rows (q row) refl (pass row) (find_passed p q pass rows)

pub eq_is : (o : Ordering) → is_eq o ≡ true → o ≡ Equal
eq_is Less e = cc
eq_is Equal e = refl
eq_is Greater e = cc

other_by : {K : Type 0} (cmp : K → K → Ordering) → IsTotalOrder cmp → (a k j : K) (b : Bool) →
    is_eq (cmp a k) ≡ b → is_eq (cmp k j) ≡ false → is_eq (cmp a j) ≡ true → not b ≡ true
other_by cmp o a k j true same other found = sym (sym found ∙ ap is_eq (o.congr a k j (eq_is (cmp a k) same)) ∙ other)
other_by cmp o a k j false same other found = refl

pub find_drop_other : {K X : Type 0} (cmp : K → K → Ordering) (key : X → K) → IsTotalOrder cmp → (k j : K) (rows : List X) →
    is_eq (cmp k j) ≡ false → find_row cmp key j (drop_row cmp key k rows) ≡ find_row cmp key j rows
unfolding find_row drop_row
find_drop_other cmp key o k j rows other =
    find_passed (has_key cmp key j) (λ row. not (has_key cmp key k row)) (λ row found. other_by cmp o (key row) k j (is_eq (cmp (key row) k)) refl other found) rows

-- above a key nothing has it
pub find_above : {K X : Type 0} (cmp : K → K → Ordering) (key : X → K) → IsTotalOrder cmp → (k low : K) (rows : List X) →
    cmp low k ≡ Equal → AreAbove cmp key low rows → find (has_key cmp key k) rows ≡ None
find_above cmp key o k low [] same above = refl
find_above cmp key o k low (row ∷ rows) same above =
    let greater : cmp (key row) k ≡ Greater = o.antisymm (key row) k ∙ ap ordering_reverse (sym (o.congr low k (key row) same) ∙ above.0) in
    rw greater (find_above cmp key o k low rows same above.1)

none_filtered_by : {X : Type 0} (p : X → Bool) (row : X) (rows : List X) (b : Bool) → p row ≡ false → find p rows ≡ None → find p (cond b (row ∷ rows) rows) ≡ None
none_filtered_by p row rows true e none = rw e none
none_filtered_by p row rows false e none = none

find_none_by : {X : Type 0} (row : X) (rest : Option X) (b : Bool) → cond b (Some row) rest ≡ None → (b ≡ false) × (rest ≡ None)
find_none_by row rest true e = cc
find_none_by row rest false e = (refl, e)

none_filtered : {X : Type 0} (p test : X → Bool) (rows : List X) → find p rows ≡ None → find p (filter test rows) ≡ None
none_filtered p test [] none = refl
none_filtered p test (row ∷ rows) none =
    let both = find_none_by row (find p rows) (p row) none in
    none_filtered_by p row (filter test rows) (test row) both.0 (none_filtered p test rows both.1)

-- what is found after some were left out
find_filter_by : {X : Type 0} (p test : X → Bool) (row : X) (rows : List X) (found passes : Bool) → p row ≡ found → test row ≡ passes →
    (found ≡ true → find p rows ≡ None) → find p (filter test rows) ≡ passing test (find p rows) →
    find p (cond passes (row ∷ filter test rows) (filter test rows)) ≡ passing test (cond found (Some row) (find p rows))
find_filter_by p test row rows true true f t none same = rw (f, t) refl
find_filter_by p test row rows true false f t none same = rw t (none_filtered p test rows (none refl))
find_filter_by p test row rows false true f t none same = rw f same
find_filter_by p test row rows false false f t none same = same

pub find_filter : {K X : Type 0} (cmp : K → K → Ordering) (key : X → K) → IsTotalOrder cmp → (test : X → Bool) (k : K) (rows : List X) →
    IsAscending cmp key rows → find_row cmp key k (filter test rows) ≡ passing test (find_row cmp key k rows)
unfolding find_row
find_filter cmp key o test k [] up = refl
find_filter cmp key o test k (row ∷ rows) up =
    find_filter_by (has_key cmp key k) test row rows (has_key cmp key k row) (test row) refl refl
    (λ e. find_above cmp key o k (key row) rows (eq_is (cmp (key row) k) e) up.0) (find_filter cmp key o test k rows up.1)

-- how many rows there are after a put
length_put_new_by : {X : Type 0} (row next : X) (rows behind : List X) (o : Ordering) → is_eq o ≡ false →
    length behind ≡ length rows + 1 → length (put_by o row next rows behind) ≡ length rows + 1 + 1
length_put_new_by row next rows behind Less new more = omega (arith, more)
length_put_new_by row next rows behind Equal new more = cc
length_put_new_by row next rows behind Greater new more = omega arith

pub length_put_new : {K X : Type 0} (cmp : K → K → Ordering) (key : X → K) (row : X) (rows : List X) →
    find_row cmp key (key row) rows ≡ None → length (put_row cmp key row rows) ≡ length rows + 1
unfolding find_row put_row
length_put_new cmp key row [] none = omega arith
length_put_new cmp key row (next ∷ rows) none =
    let both = find_none_by next (find (has_key cmp key (key row)) rows) (has_key cmp key (key row) next) none in
    omega (arith, length_put_new_by row next rows (put_row cmp key row rows) (cmp (key next) (key row)) both.0 (length_put_new cmp key row rows both.1))

-- a row that is found is one of them, and has the key
found_by : {K X : Type 0} (cmp : K → K → Ordering) (key : X → K) (k : K) (next row : X) (rest : Option X) (b : Bool) → has_key cmp key k next ≡ b →
    cond b (Some next) rest ≡ Some row → ((next ≡ row) × (cmp (key row) k ≡ Equal)) ⊎ (rest ≡ Some row)
found_by cmp key k next row rest true is found =
    let same : next ≡ row = cc in
    inl (same, subst (λ (x : _). cmp (key x) k ≡ Equal) same (eq_is (cmp (key next) k) is))
found_by cmp key k next row rest false is found = inr found

found_among_by : {K X : Type 0} (cmp : K → K → Ordering) (key : X → K) (k : K) (next row : X) (rows : List X) (rest : Option X) →
    ((next ≡ row) × (cmp (key row) k ≡ Equal)) ⊎ (rest ≡ Some row) → (rest ≡ Some row → Among rows row × (cmp (key row) k ≡ Equal)) →
    Among (next ∷ rows) row × (cmp (key row) k ≡ Equal)
found_among_by cmp key k next row rows rest (inl first) later = (inl first.0, first.1)
found_among_by cmp key k next row rows rest (inr found) later = let both = later found in (inr both.0, both.1)

pub found_among : {K X : Type 0} (cmp : K → K → Ordering) (key : X → K) (k : K) (rows : List X) (row : X) →
    find_row cmp key k rows ≡ Some row → Among rows row × (cmp (key row) k ≡ Equal)
unfolding find_row
found_among cmp key k [] row found = cc
found_among cmp key k (next ∷ rows) row found =
    let rest = find (has_key cmp key k) rows in
    found_among_by cmp key k next row rows rest (found_by cmp key k next row rest (has_key cmp key k next) refl found) (found_among cmp key k rows row)

pub above_among : {K X : Type 0} (cmp : K → K → Ordering) (key : X → K) (low : K) (rows : List X) (row : X) →
    AreAbove cmp key low rows → Among rows row → cmp low (key row) ≡ Less
above_among cmp key low [] row above among = absurd among
above_among cmp key low (next ∷ rows) row above (inl same) = subst (λ (x : _). cmp low (key x) ≡ Less) same above.0
above_among cmp key low (next ∷ rows) row above (inr later) = above_among cmp key low rows row above.1 later

pub id_found : {R : Type 0} (id_of : R → List ℕ) (id : List ℕ) (rows : List R) (row : R) → find_row id_cmp id_of id rows ≡ Some row → id_of row ≡ id
id_found id_of id rows row found = id_exact (id_of row) id (found_among id_cmp id_of id rows row found).1

-- and each of them is found by its key
pub among_found : {K X : Type 0} (cmp : K → K → Ordering) (key : X → K) → IsTotalOrder cmp → (rows : List X) (row : X) →
    IsAscending cmp key rows → Among rows row → find_row cmp key (key row) rows ≡ Some row
unfolding find_row
among_found cmp key o [] row up among = absurd among
among_found cmp key o (next ∷ rows) row up (inl same) =
    let equal : cmp (key next) (key row) ≡ Equal = subst (λ (x : _). cmp (key next) (key x) ≡ Equal) same (tied_itself o (key next)) in
    rw equal (ap Some same)
among_found cmp key o (next ∷ rows) row up (inr later) =
    rw (above_among cmp key (key next) rows row up.0 later) (among_found cmp key o rows row up.1 later)

-- one row for each key
pub same_row : {K X : Type 0} (cmp : K → K → Ordering) (key : X → K) → IsTotalOrder cmp → (rows : List X) (a b : X) →
    IsAscending cmp key rows → Among rows a → Among rows b → key a ≡ key b → a ≡ b
same_row cmp key o rows a b up first second same =
    let left = among_found cmp key o rows a up first in
    let right = among_found cmp key o rows b up second in
    let alike : find_row cmp key (key a) rows ≡ find_row cmp key (key b) rows = ap (λ (k : _). find_row cmp key k rows) same in
    cc

-- a put row is one of them; the others are those from before
among_put_by : {X : Type 0} (row next x : X) (rows behind : List X) (o : Ordering) → Among (put_by o row next rows behind) x →
    (Among behind x → (row ≡ x) ⊎ Among rows x) → (row ≡ x) ⊎ Among (next ∷ rows) x
among_put_by row next x rows behind Less (inl same) later = inr (inl same)
among_put_by row next x rows behind Less (inr among) later = into (later among)
  where
    into : (row ≡ x) ⊎ Among rows x → (row ≡ x) ⊎ Among (next ∷ rows) x
    into (inl same) = inl same
    into (inr old) = inr (inr old)
among_put_by row next x rows behind Equal (inl same) later = inl same
among_put_by row next x rows behind Equal (inr among) later = inr (inr among)
among_put_by row next x rows behind Greater (inl same) later = inl same
among_put_by row next x rows behind Greater (inr among) later = inr among

pub among_put : {K X : Type 0} (cmp : K → K → Ordering) (key : X → K) (row : X) (rows : List X) (x : X) →
    Among (put_row cmp key row rows) x → (row ≡ x) ⊎ Among rows x
unfolding put_row
among_put cmp key row [] x among = among
among_put cmp key row (next ∷ rows) x among =
    among_put_by row next x rows (put_row cmp key row rows) (cmp (key next) (key row)) among (among_put cmp key row rows x)

put_among_by : {X : Type 0} (row next : X) (rows behind : List X) (o : Ordering) → Among behind row → Among (put_by o row next rows behind) row
put_among_by row next rows behind Less later = inr later
put_among_by row next rows behind Equal later = inl refl
put_among_by row next rows behind Greater later = inl refl

pub put_among : {K X : Type 0} (cmp : K → K → Ordering) (key : X → K) (row : X) (rows : List X) → Among (put_row cmp key row rows) row
unfolding put_row
put_among cmp key row [] = inl refl
put_among cmp key row (next ∷ rows) = put_among_by row next rows (put_row cmp key row rows) (cmp (key next) (key row)) (put_among cmp key row rows)

among_put_other_by : {X : Type 0} (row next x : X) (rows behind : List X) (o : Ordering) → (next ≡ x → is_eq o ≡ false) →
    Among (next ∷ rows) x → (Among rows x → Among behind x) → Among (put_by o row next rows behind) x
among_put_other_by row next x rows behind Less other (inl same) later = inl same
among_put_other_by row next x rows behind Less other (inr among) later = inr (later among)
among_put_other_by row next x rows behind Equal other (inl same) later = cc (other same)
among_put_other_by row next x rows behind Equal other (inr among) later = inr among
among_put_other_by row next x rows behind Greater other among later = inr among

pub among_put_other : {K X : Type 0} (cmp : K → K → Ordering) (key : X → K) (row : X) (rows : List X) (x : X) →
    is_eq (cmp (key x) (key row)) ≡ false → Among rows x → Among (put_row cmp key row rows) x
unfolding put_row
among_put_other cmp key row [] x other among = absurd among
among_put_other cmp key row (next ∷ rows) x other among =
    among_put_other_by row next x rows (put_row cmp key row rows) (cmp (key next) (key row))
    (λ same. subst (λ (y : _). is_eq (cmp (key y) (key row)) ≡ false) (sym same) other) among (among_put_other cmp key row rows x other)

-- what is left of them passes, and what passes is left
among_filter_by : {X : Type 0} (test : X → Bool) (row x : X) (rows kept : List X) (b : Bool) → test row ≡ b → Among (cond b (row ∷ kept) kept) x →
    (Among kept x → Among rows x × (test x ≡ true)) → Among (row ∷ rows) x × (test x ≡ true)
among_filter_by test row x rows kept true is (inl same) later = (inl same, subst (λ (y : _). test y ≡ true) same is)
among_filter_by test row x rows kept true is (inr among) later = let both = later among in (inr both.0, both.1)
among_filter_by test row x rows kept false is among later = let both = later among in (inr both.0, both.1)

pub among_filter : {X : Type 0} (test : X → Bool) (rows : List X) (x : X) → Among (filter test rows) x → Among rows x × (test x ≡ true)
among_filter test [] x among = absurd among
among_filter test (row ∷ rows) x among = among_filter_by test row x rows (filter test rows) (test row) refl among (among_filter test rows x)

filter_among_by : {X : Type 0} (test : X → Bool) (row x : X) (rows kept : List X) (b : Bool) → test row ≡ b → Among (row ∷ rows) x → test x ≡ true →
    (Among rows x → Among kept x) → Among (cond b (row ∷ kept) kept) x
filter_among_by test row x rows kept true is (inl same) pass later = inl same
filter_among_by test row x rows kept true is (inr among) pass later = inr (later among)
filter_among_by test row x rows kept false is (inl same) pass later = let also : test row ≡ test x = ap test same in cc
filter_among_by test row x rows kept false is (inr among) pass later = later among

pub filter_among : {X : Type 0} (test : X → Bool) (rows : List X) (x : X) → Among rows x → test x ≡ true → Among (filter test rows) x
filter_among test [] x among pass = absurd among
filter_among test (row ∷ rows) x among pass =
    filter_among_by test row x rows (filter test rows) (test row) refl among pass (λ later. filter_among test rows x later pass)

pub among_drop : {K X : Type 0} (cmp : K → K → Ordering) (key : X → K) (k : K) (rows : List X) (x : X) →
    Among (drop_row cmp key k rows) x → Among rows x × (not (has_key cmp key k x) ≡ true)
unfolding drop_row
among_drop cmp key k rows x among = among_filter (λ row. not (has_key cmp key k row)) rows x among

-- a search of a set finds the row exactly if it is one of them
pub has-Decides : {X : Type 0} (cmp : X → X → Ordering) → IsTotalOrder cmp → ((a b : X) → cmp a b ≡ Equal → a ≡ b) → (row : X) (rows : List X) →
    IsAscending cmp (λ next. next) rows → Decides (is_some (find_row cmp (λ next. next) row rows)) (Among rows row)
has-Decides cmp o exact row rows up =
    (λ some. there (some_is (find_row cmp (λ next. next) row rows) some), λ among. ap is_some (among_found cmp (λ next. next) o rows row up among))
  where
    there : (x : _) × (find_row cmp (λ next. next) row rows ≡ Some x) → Among rows row
    there (x, found) =
        let both = found_among cmp (λ next. next) row rows x found in
        subst (Among rows) (exact x row both.1) both.0
