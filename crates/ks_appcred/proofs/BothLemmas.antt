-- What each change leaves of rows in two orders, and what is found in either.
use Rattle.std.proofs.Common.{◌≡◌, ◌⊎◌, inl, inr, ℕ, ◌-◌, IfNone, Bool, true, false, not, ◌&&◌, cond, List, [], ◌∷◌, length, map, take, drop, get_or, Option, Some, None, refl, sym, ap, subst, ◌∙◌, arith}
use Rattle.std.specs.Prelude.{◌↔◌, ◌<◌, ◌≤◌}
use Rattle.std.specs.List.{find, filter, insert, remove}
use Rattle.std.specs.declared.cmp.Ordering.{Ordering}
use Rattle.std.specs.declared.cmp.Ordering.TheVariants.{Equal}
use Rattle.std.specs.Ordering.{is_eq}
use Rattle.std.specs.Cmp.{IsTotalOrder}
use Rattle.std.proofs.lemmas.Cmp.{nat_list_cmp_total, tied_itself}
use Rattle.std.proofs.lemmas.List.{take-append-drop, get_or-map}
use Rattle.ks_appcred.specs.Orders.{AreBoth, AreNamed, name_of}
use Rattle.ks_index.specs.Indexes.{Name, is_named, name_cmp}
use Rattle.ks_base.specs.OrderLaws.{id_exact, then_equal}
use Rattle.ks_base.specs.Places.{IsFoundAt, IsGapAt}
use Rattle.ks_base.specs.Rows.{Id, same}
use Rattle.ks_base.specs.Tables.{Among, IsAscending, drop_row, find_row, has_key, id_cmp}
use Rattle.ks_base.proofs.AmongLemmas.{among_left, among_mapped, among_parts, among_right, fewer_left, get_among, map_among}
use Rattle.ks_base.proofs.LinkLemmas.{ascending_same, other_by, tied_not}
use Rattle.ks_index.proofs.NameLemmas.{name_total}
use Rattle.ks_base.proofs.PlaceLemmas.{ascending_insert, ascending_remove, drop_found, find_found, find_gap}
use Rattle.ks_base.proofs.RowLemmas.{among_drop, among_filter, among_found, filter_among, find_alike, found_among, id_same, same_row}
use Rattle.ks_base.proofs.TableLemmas.{ascending_filter, some_ids_ascend}
use Rattle.ks_base.proofs.PairLemmas.{then_both}

pub name_exact : (a b : Name) → name_cmp a b ≡ Equal → a ≡ b
name_exact a b e =
    let both = then_equal (id_cmp a.0 b.0) (id_cmp a.1 b.1) e in
    let home = id_exact a.0 b.0 both.0 in
    let name = id_exact a.1 b.1 both.1 in
    λ i. (home i, name i)

-- other lists that are the same
pub both_is : {X K J : Type 0} (cmp : K → K → Ordering) (key : X → K) (less : J → J → Ordering) (other : X → J) (rows more names others : List X) →
    more ≡ rows → others ≡ names → AreBoth cmp key less other rows names → AreBoth cmp key less other more others
both_is {X} cmp key less other rows more names others is also both =
    subst (λ (l : List X). AreBoth cmp key less other l others) (sym is) (subst (λ (l : List X). AreBoth cmp key less other rows l) (sym also) both)

-- one more row

among_insert : {X : Type 0} (xs : List X) (i : ℕ) (x y : X) → Among (insert xs i x) y → (x ≡ y) ⊎ Among xs y
among_insert {X} xs i x y among = by (among_parts (take i xs) (x ∷ drop i xs) y among)
  where
    by : Among (take i xs) y ⊎ Among (x ∷ drop i xs) y → (x ≡ y) ⊎ Among xs y
    by (inl front) = inr (subst (λ l. Among l y) (take-append-drop i xs) (among_left (take i xs) (drop i xs) y front))
    by (inr (inl is)) = inl is
    by (inr (inr behind)) = inr (subst (λ l. Among l y) (take-append-drop i xs) (among_right (take i xs) (drop i xs) y behind))

insert_among : {X : Type 0} (xs : List X) (i : ℕ) (x y : X) → (x ≡ y) ⊎ Among xs y → Among (insert xs i x) y
insert_among xs i x y (inl is) = among_right (take i xs) (x ∷ drop i xs) y (inl is)
insert_among {X} xs i x y (inr among) =
    by (among_parts (take i xs) (drop i xs) y (subst (λ l. Among l y) (sym (take-append-drop i xs)) among))
  where
    by : Among (take i xs) y ⊎ Among (drop i xs) y → Among (insert xs i x) y
    by (inl front) = among_left (take i xs) (x ∷ drop i xs) y front
    by (inr behind) = among_right (take i xs) (x ∷ drop i xs) y (inr behind)

pub both_insert : {X K J : Type 0} (cmp : K → K → Ordering) (key : X → K) (less : J → J → Ordering) (other : X → J) → IsTotalOrder cmp → IsTotalOrder less →
    (row : X) (rows names : List X) (i j : ℕ) → AreBoth cmp key less other rows names → IsGapAt cmp key (key row) rows i → IsGapAt less other (other row) names j →
    AreBoth cmp key less other (insert rows i row) (insert names j row)
both_insert {X} cmp key less other o p row rows names i j both gap space = record {
  up = ascending_insert cmp key o row rows i both.up gap;
  across = ascending_insert less other p row names j both.across space;
  forth = λ x among. insert_among names j row x (onto x (among_insert rows i row x among));
  back = λ x among. insert_among rows i row x (from x (among_insert names j row x among));
}
  where
    onto : (x : X) → (row ≡ x) ⊎ Among rows x → (row ≡ x) ⊎ Among names x
    onto x (inl is) = inl is
    onto x (inr among) = inr (both.forth x among)

    from : (x : X) → (row ≡ x) ⊎ Among names x → (row ≡ x) ⊎ Among rows x
    from x (inl is) = inl is
    from x (inr among) = inr (both.back x among)

-- one row less

drop_among : {X K : Type 0} (cmp : K → K → Ordering) (key : X → K) (k : K) (rows : List X) (x : X) → Among rows x → not (has_key cmp key k x) ≡ true → Among (drop_row cmp key k rows) x
unfolding drop_row
drop_among cmp key k rows x among other = filter_among (λ row. not (has_key cmp key k row)) rows x among other

get_found : {X K : Type 0} (cmp : K → K → Ordering) (key : X → K) (k : K) (rows : List X) (i : ℕ) (row : X) → IsFoundAt cmp key k rows i → row ≡ get_or rows i row →
    Among rows row × (cmp (key row) k ≡ Equal)
get_found cmp key k rows i row found is = found_among cmp key k rows row (find_found cmp key k rows i row found ∙ ap Some (sym is))

-- a row that stands has its place in the other order
pub stands_across : {X K J : Type 0} (cmp : K → K → Ordering) (key : X → K) (less : J → J → Ordering) (other : X → J) → IsTotalOrder less →
    (k : K) (row : X) (rows names : List X) (i j : ℕ) → AreBoth cmp key less other rows names → IsFoundAt cmp key k rows i → row ≡ get_or rows i row →
    IsGapAt less other (other row) names j → ⊥
stands_across cmp key less other p k row rows names i j both found is gap =
    let here = both.forth row (get_found cmp key k rows i row found is).0 in
    let some = among_found less other p names row both.across here in
    let none = find_gap less other (other row) names j gap in
    cc

pub both_remove : {X K J : Type 0} (cmp : K → K → Ordering) (key : X → K) (less : J → J → Ordering) (other : X → J) → IsTotalOrder cmp → IsTotalOrder less →
    ((a b : K) → cmp a b ≡ Equal → a ≡ b) → ((a b : J) → less a b ≡ Equal → a ≡ b) → (k : K) (row : X) (rows names : List X) (i j : ℕ) →
    AreBoth cmp key less other rows names → IsFoundAt cmp key k rows i → row ≡ get_or rows i row → IsFoundAt less other (other row) names j →
    AreBoth cmp key less other (remove rows i) (remove names j)
both_remove {X} cmp key less other o p exact exactly k row rows names i j both found is there = record {
  up = ascending_remove cmp key o k rows i both.up found;
  across = ascending_remove less other p (other row) names j both.across there;
  forth = λ x among. subst (λ l. Among l x) gone (forth x (subst (λ l. Among l x) (sym left) among));
  back = λ x among. subst (λ l. Among l x) left (back x (subst (λ l. Among l x) (sym gone) among));
}
  where
    here : Among rows row × (cmp (key row) k ≡ Equal)
    here = get_found cmp key k rows i row found is

    left : drop_row cmp key k rows ≡ remove rows i
    left = drop_found cmp key o k rows i both.up found

    gone : drop_row less other (other row) names ≡ remove names j
    gone = drop_found less other p (other row) names j both.across there

    forth : (x : X) → Among (drop_row cmp key k rows) x → Among (drop_row less other (other row) names) x
    forth x among =
        let stays = among_drop cmp key k rows x among in
        drop_among less other (other row) names x (both.forth x stays.0)
        (other_by (less (other x) (other row)) (λ tied.
        let one : x ≡ row = same_row less other p names x row both.across (both.forth x stays.0) (both.forth row here.0) (exactly (other x) (other row) tied) in
        tied_not (cmp (key x) k) (ap (λ y. cmp (key y) k) one ∙ here.1) stays.1))

    back : (x : X) → Among (drop_row less other (other row) names) x → Among (drop_row cmp key k rows) x
    back x among =
        let stays = among_drop less other (other row) names x among in
        drop_among cmp key k rows x (both.back x stays.0)
        (other_by (cmp (key x) k) (λ tied.
        let keys : key x ≡ key row = exact (key x) k tied ∙ sym (exact (key row) k here.1) in
        let one : x ≡ row = same_row cmp key o rows x row both.up (both.back x stays.0) here.0 keys in
        tied_not (less (other x) (other row)) (ap (λ y. less (other y) (other row)) one ∙ tied_itself p (other row)) stays.1))

-- the rows that pass
pub both_filter : {X K J : Type 0} (cmp : K → K → Ordering) (key : X → K) (less : J → J → Ordering) (other : X → J) (test : X → Bool) (rows names : List X) →
    AreBoth cmp key less other rows names → AreBoth cmp key less other (filter test rows) (filter test names)
both_filter cmp key less other test rows names both = record {
  up = ascending_filter cmp key test rows both.up;
  across = ascending_filter less other test names both.across;
  forth = λ x among. let stays = among_filter test rows x among in filter_among test names x (both.forth x stays.0) stays.1;
  back = λ x among. let stays = among_filter test names x among in filter_among test rows x (both.back x stays.0) stays.1;
}

-- what is found

none_found_by : {X : Type 0} (p : X → Bool) (next x : X) (xs : List X) (b : Bool) → p next ≡ b → cond b (Some next) (find p xs) ≡ None →
    (find p xs ≡ None → Among xs x → ⊥) → p x ≡ true → (next ≡ x) ⊎ Among xs x → ⊥
none_found_by p next x xs true is none later pass among = cc
none_found_by p next x xs false is none later pass (inl same) = let here : p next ≡ p x = ap p same in cc
none_found_by p next x xs false is none later pass (inr among) = later none among

none_found : {X : Type 0} (p : X → Bool) (xs : List X) (x : X) → find p xs ≡ None → p x ≡ true → Among xs x → ⊥
none_found p [] x none pass among = among
none_found p (next ∷ xs) x none pass among = none_found_by p next x xs (p next) refl none (λ rest later. none_found p xs x rest pass later) pass among

none_has : {X J : Type 0} (less : J → J → Ordering) (other : X → J) (k : J) (rows : List X) (x : X) → find_row less other k rows ≡ None → has_key less other k x ≡ true →
    Among rows x → ⊥
unfolding find_row
none_has less other k rows x none has among = none_found (has_key less other k) rows x none has among

-- a key of the other order finds the same among the rows
pub found_across : {X K J : Type 0} (cmp : K → K → Ordering) (key : X → K) (less : J → J → Ordering) (other : X → J) → IsTotalOrder less →
    ((a b : J) → less a b ≡ Equal → a ≡ b) → (k : J) (rows names : List X) → AreBoth cmp key less other rows names →
    find_row less other k names ≡ find_row less other k rows
found_across {X} {K} {J} cmp key less other p exactly k rows names both = by (find_row less other k rows) refl (find_row less other k names) refl
  where
    some : (x : X) → find_row less other k rows ≡ Some x → find_row less other k names ≡ Some x
    some x is =
        let here = found_among less other k rows x is in
        subst (λ (j : J). find_row less other j names ≡ Some x) (exactly (other x) k here.1) (among_found less other p names x both.across (both.forth x here.0))

    none : (x : X) → find_row less other k names ≡ Some x → find_row less other k rows ≡ None → ⊥
    none x is empty =
        let here = found_among less other k names x is in
        none_has less other k rows x empty (ap is_eq here.1) (both.back x here.0)

    by : (r : Option X) → find_row less other k rows ≡ r → (s : Option X) → find_row less other k names ≡ s → find_row less other k names ≡ find_row less other k rows
    by (Some x) is s there = some x is ∙ sym is
    by None is None there = there ∙ sym is
    by None is (Some x) there = absurd (none x there is)

has_name : {R : Type 0} (home naming : R → List ℕ) (h n : List ℕ) (row : R) → has_key name_cmp (name_of home naming) (h, n) row ≡ is_named home naming h n row
has_name home naming h n row =
    then_both (id_cmp (home row) h) (id_cmp (naming row) n) ∙ ap (λ b. b && is_eq (id_cmp (naming row) n)) (id_same (home row) h)
    ∙ ap (λ b. same (home row) h && b) (id_same (naming row) n)

find_name : {R : Type 0} (home naming : R → List ℕ) (h n : List ℕ) (rows : List R) → find_row name_cmp (name_of home naming) (h, n) rows ≡ find (is_named home naming h n) rows
unfolding find_row
find_name home naming h n rows = find_alike (has_key name_cmp (name_of home naming) (h, n)) (is_named home naming h n) (has_name home naming h n) rows

-- a search of the names finds the row of that home and name
pub named_across : {R : Type 0} (home naming key : R → List ℕ) (h n : List ℕ) (rows names : List R) → AreNamed home naming key rows names →
    find_row name_cmp (name_of home naming) (h, n) names ≡ find (is_named home naming h n) rows
named_across home naming key h n rows names both =
    found_across id_cmp key name_cmp (name_of home naming) name_total name_exact (h, n) rows names both ∙ find_name home naming h n rows

-- ids that ascend, and are those of the names that pass, are those of the rows that pass, in their order
pub ids_across : {X J : Type 0} (key : X → Id) (less : J → J → Ordering) (other : X → J) (test : X → Bool) (rows names : List X) (ids : List Id) →
    AreBoth id_cmp key less other rows names → IsAscending id_cmp (λ id. id) ids → ((id : Id) → Among ids id ↔ Among (map key (filter test names)) id) →
    ids ≡ map key (filter test rows)
ids_across {X} key less other test rows names ids both up alike =
    ascending_same id_cmp nat_list_cmp_total ids (map key (filter test rows)) up (some_ids_ascend key test rows both.up)
    (λ id among. onto id ((alike id).0 among)) (λ id among. (alike id).1 (from id among))
  where
    passing : AreBoth id_cmp key less other (filter test rows) (filter test names)
    passing = both_filter id_cmp key less other test rows names both

    onto : (id : Id) → Among (map key (filter test names)) id → Among (map key (filter test rows)) id
    onto id among =
        let one = among_mapped key (filter test names) id among in
        subst (Among (map key (filter test rows))) one.2 (map_among key (filter test rows) one.0 (passing.back one.0 one.1))

    from : (id : Id) → Among (map key (filter test rows)) id → Among (map key (filter test names)) id
    from id among =
        let one = among_mapped key (filter test rows) id among in
        subst (Among (map key (filter test names))) one.2 (map_among key (filter test names) one.0 (passing.forth one.0 one.1))

-- rows that go one by one

filter_again_by : {X : Type 0} (q p : X → Bool) (x : X) (xs : List X) (b c : Bool) → q x ≡ b → p x ≡ c → (q x ≡ true → p x ≡ true) →
    filter q (filter p xs) ≡ filter q xs → filter q (cond c (x ∷ filter p xs) (filter p xs)) ≡ cond b (x ∷ filter q xs) (filter q xs)
filter_again_by q p x xs true true is also passes rest = rw is (ap (λ (l : List _). x ∷ l) rest)
filter_again_by q p x xs true false is also passes rest = let passed = passes is in cc
filter_again_by q p x xs false true is also passes rest = rw is rest
filter_again_by q p x xs false false is also passes rest = rest

filter_again : {X : Type 0} (q p : X → Bool) (xs : List X) → ((x : X) → Among xs x → q x ≡ true → p x ≡ true) → filter q (filter p xs) ≡ filter q xs
filter_again q p [] passes = refl
filter_again q p (x ∷ xs) passes =
    filter_again_by q p x xs (q x) (p x) refl refl (passes x (inl refl)) (filter_again q p xs (λ y among. passes y (inr among)))

not_true : (b : Bool) → b ≡ true → not b ≡ true → ⊥
not_true true is other = cc
not_true false is other = cc

-- a row that does not pass may go first
pub filter_dropped : {X K : Type 0} (cmp : K → K → Ordering) (key : X → K) (fails : X → Bool) → IsTotalOrder cmp → ((a b : K) → cmp a b ≡ Equal → a ≡ b) →
    (row : X) (rows : List X) → IsAscending cmp key rows → Among rows row → fails row ≡ true →
    filter (λ x. not (fails x)) (drop_row cmp key (key row) rows) ≡ filter (λ x. not (fails x)) rows
unfolding drop_row
filter_dropped {X} cmp key fails o exact row rows up among fail =
    filter_again (λ x. not (fails x)) (λ x. not (has_key cmp key (key row) x)) rows
    (λ x there passes. other_by (cmp (key x) (key row)) (λ tied.
    let one : x ≡ row = same_row cmp key o rows x row up there among (exact (key x) (key row) tied) in
    not_true (fails x) (ap fails one ∙ fail) passes))

none_fails : {X : Type 0} (fails : X → Bool) (xs : List X) → ((x : X) → Among xs x → fails x ≡ false) → filter (λ x. not (fails x)) xs ≡ xs
none_fails fails [] passes = refl
none_fails fails (x ∷ xs) passes = rw (passes x (inl refl)) (ap (λ (l : List _). x ∷ l) (none_fails fails xs (λ y among. passes y (inr among))))

-- where no name of a home is left, no row of it is
pub none_of_home : {X K J : Type 0} (cmp : K → K → Ordering) (key : X → K) (less : J → J → Ordering) (other : X → J) (fails : X → Bool) (rows names : List X) →
    AreBoth cmp key less other rows names → ((x : X) → Among names x → fails x ≡ false) → filter (λ x. not (fails x)) rows ≡ rows
none_of_home cmp key less other fails rows names both passes = none_fails fails rows (λ x among. passes x (both.forth x among))

pub fewer_dropped : {X K : Type 0} (cmp : K → K → Ordering) (key : X → K) → IsTotalOrder cmp → (row : X) (rows : List X) → Among rows row →
    length (drop_row cmp key (key row) rows) < length rows
unfolding drop_row
fewer_dropped cmp key o row rows among = fewer_left (λ x. not (has_key cmp key (key row) x)) rows row among (ap (λ o. not (is_eq o)) (tied_itself o (key row)))

-- what stands at a place

pub get_mapped : {A X : Type 0} (value : A → X) (xs : List A) (i : ℕ) (a : A) → a ≡ get_or xs i a → i < length xs → value a ≡ get_or (map value xs) i (value a)
get_mapped value xs i a is lt = ap value is ∙ sym (get_or-map value xs i a (value a) lt)

-- the last of a run is one of the rows that pass
pub last_passes : {A X : Type 0} (value : A → X) (test : X → Bool) (run : List A) (rows : List X) (a : A) → map value run ≡ filter test rows → 0 < length run →
    a ≡ get_or run (length run - 1) a → Among rows (value a) × (test (value a) ≡ true)
last_passes value test run rows a are some is =
    let last : Among run a = subst (Among run) (sym is) (get_among run (length run - 1) a (omega (arith, some))) in
    among_filter test rows (value a) (subst (λ (l : List _). Among l (value a)) are (map_among value run a last))

none_pass_by : {A X : Type 0} (value : A → X) (test : X → Bool) (run : List A) (rows : List X) (x : X) (b : Bool) → map value run ≡ filter test rows → length run ≤ 0 →
    Among rows x → test x ≡ b → test x ≡ false
none_pass_by value test run rows x false are none among is = is
none_pass_by value test [] rows x true are none among is =
    absurd (subst (λ (l : List _). Among l x) (sym are) (filter_among test rows x among is))
none_pass_by value test (a ∷ run) rows x true are none among is = absurd (omega (arith, none))

-- and none passes where the run is empty
pub none_pass : {A X : Type 0} (value : A → X) (test : X → Bool) (run : List A) (rows : List X) → map value run ≡ filter test rows → length run ≤ 0 →
    (x : X) → Among rows x → test x ≡ false
none_pass value test run rows are none x among = none_pass_by value test run rows x (test x) are none among refl

pub if_none : {X : Type 0} (found : Option X) (P : Type 0) → P → IfNone found P
if_none None P holds = holds
if_none (Some x) P holds = tt
