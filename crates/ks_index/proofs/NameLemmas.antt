-- What an index by home and name finds.
use Rattle.std.proofs.Common.{◌≡◌, ◌≢◌, Bor, option_copied, IfSome, IfNone, IsTrue, ℕ, zero, suc, ◌+◌, ◌-◌, ◌<◌, ◌≤◌, Bool, true, false, not, ◌&&◌, cond, ◌⊎◌, inl, inr, List, [], ◌∷◌, length, get_or, Option, Some, None, Result, Ok, Err, refl, sym, ap, subst, ◌∙◌, arith}
use Rattle.std.specs.List.{AllByRecursion, find, insert, remove}
use Rattle.std.specs.declared.cmp.Ordering.{Ordering}
use Rattle.std.specs.declared.cmp.Ordering.TheVariants.{Less, Equal, Greater}
use Rattle.std.specs.Ordering.{ordering_then, ordering_reverse}
use Rattle.std.specs.Cmp.{IsTotalOrder}
use Rattle.std.proofs.lemmas.Cmp.{tied_itself, nat_list_cmp_total, then_total, on_total}
use Rattle.std.proofs.lemmas.Slice.Eq.{bytes_eq-Decides}
use Rattle.ks_base.specs.Tables.{id_cmp, IsAscending, Among, drop_row, find_row}
use Rattle.ks_base.specs.Places.{IsFoundAt, IsGapAt, IsPlace}
use Rattle.ks_base.specs.Rows.{same}
use Rattle.ks_base.specs.OrderLaws.{id_exact, then_equal}
use Rattle.ks_index.specs.Indexes.{Name, AreListed, AreNamesBut, AreNamesOf, ArePartNames, AreUnlike, name_cmp, full_cmp, full_name, is_named, is_other_named, row_in}
use Rattle.ks_base.proofs.AmongLemmas.{all_among, get_among}
use Rattle.ks_index.proofs.IndexLemmas.{get_any, below_or_not, in_index, out_index, part_put}
use Rattle.ks_base.proofs.PlaceLemmas.{above_at, drop_found, find_gap}
use Rattle.ks_base.proofs.RowLemmas.{above_among, among_found}
use Rattle.ks_base.proofs.TruthLemmas.{and_none}

-- the orders

pub name_total : IsTotalOrder name_cmp
name_total = then_total (on_total (λ name. name.0) nat_list_cmp_total) (on_total (λ name. name.1) nat_list_cmp_total)

pub full_total : IsTotalOrder full_cmp
full_total = then_total (on_total (λ full. full.0) name_total) (on_total (λ full. full.1) nat_list_cmp_total)

pub full_exact : (a b : Name × List ℕ) → full_cmp a b ≡ Equal → a ≡ b
full_exact a b e =
    let both = then_equal (name_cmp a.0 b.0) (id_cmp a.1 b.1) e in
    let names = then_equal (id_cmp a.0.0 b.0.0) (id_cmp a.0.1 b.0.1) both.0 in
    let first = id_exact a.0.0 b.0.0 names.0 in
    let second = id_exact a.0.1 b.0.1 names.1 in
    let id = id_exact a.1 b.1 both.1 in
    λ i. ((first i, second i), id i)

-- lists

pub all_at : {X : Type 0} (P : X → Type 0) (xs : List X) (i : ℕ) (d : X) → AllByRecursion P xs → i < length xs → P (get_or xs i d)
all_at P [] i d all lt = absurd (omega arith)
all_at P (x ∷ xs) zero d all lt = all.0
all_at P (x ∷ xs) (suc i) d all lt = all_at P xs i d all.1 (omega arith)

pub among_get : {X : Type 0} (xs : List X) (x d : X) → Among xs x → (i : ℕ) × (i < length xs) × (get_or xs i d ≡ x)
among_get [] x d among = absurd among
among_get (next ∷ xs) x d (inl is) = (zero, omega arith, is)
among_get (next ∷ xs) x d (inr among) = let found = among_get xs x d among in (suc found.0, omega (arith, found.1), found.2)

pub ascending_at : {K X : Type 0} (cmp : K → K → Ordering) (key : X → K) (xs : List X) (i j : ℕ) (d : X) →
    IsAscending cmp key xs → i < j → j < length xs → cmp (key (get_or xs i d)) (key (get_or xs j d)) ≡ Less
ascending_at cmp key [] i j d up less lt = absurd (omega arith)
ascending_at cmp key (x ∷ xs) i zero d up less lt = absurd (omega arith)
ascending_at cmp key (x ∷ xs) zero (suc j) d up less lt = above_at cmp key (key x) xs j d up.0 (omega arith)
ascending_at cmp key (x ∷ xs) (suc i) (suc j) d up less lt = ascending_at cmp key xs i j d up.1 (omega arith) (omega arith)

-- what is above the last is above all
behind_at : {K X : Type 0} (cmp : K → K → Ordering) (key : X → K) → IsTotalOrder cmp → (k : K) (xs : List X) (at : ℕ) (last : X) →
    IsAscending cmp key xs → suc at ≡ length xs → last ≡ get_or xs at last → cmp (key last) k ≡ Less → IsGapAt cmp key k xs (length xs)
behind_at cmp key o k [] at last up end is less = tt
behind_at cmp key o k (x ∷ []) zero last up end is less = (subst (λ row. cmp (key row) k ≡ Less) is less, tt)
behind_at cmp key o k (x ∷ []) (suc at) last up end is less = absurd (omega (arith, end))
behind_at cmp key o k (x ∷ (y ∷ xs)) zero last up end is less = absurd (omega (arith, end))
behind_at cmp key o k (x ∷ (y ∷ xs)) (suc at) last up end is less =
    let rest = behind_at cmp key o k (y ∷ xs) at last up.1 (omega (arith, end)) is less in
    (o.trans (key x) (key y) k up.0.0 rest.0, rest)

pub behind_place : {K X : Type 0} (cmp : K → K → Ordering) (key : X → K) → IsTotalOrder cmp → (k : K) (xs : List X) (last : X) →
    IsAscending cmp key xs → last ≡ get_or xs (length xs - 1) last → cmp (key last) k ≡ Less → IsGapAt cmp key k xs (length xs)
behind_place cmp key o k [] last up is less = tt
behind_place cmp key o k (x ∷ xs) last up is less = behind_at cmp key o k (x ∷ xs) (length (x ∷ xs) - 1) last up (omega arith) is less

none_from : {X : Type 0} (test : X → Bool) (xs : List X) → ((x : X) → Among xs x → test x ≡ false) → find test xs ≡ None
none_from test [] none = refl
none_from test (x ∷ xs) none = rw (none x (inl refl)) (none_from test xs (λ y among. none y (inr among)))

-- the lowest that passes is found
first_is : {K X : Type 0} (cmp : K → K → Ordering) (key : X → K) (test : X → Bool) (xs : List X) (x : X) → IsAscending cmp key xs →
    Among xs x → test x ≡ true → ((y : X) → Among xs y → test y ≡ true → cmp (key y) (key x) ≢ Less) → find test xs ≡ Some x
first_is cmp key test [] x up among pass low = absurd among
first_is {K} {X} cmp key test (next ∷ xs) x up among pass low =
    by (test next) refl among (λ later. first_is cmp key test xs x up.1 later pass (λ y there. low y (inr there)))
  where
    by : (b : Bool) → test next ≡ b → Among (next ∷ xs) x → (Among xs x → find test xs ≡ Some x) → cond b (Some next) (find test xs) ≡ Some x
    by true is (inl first) rest = ap Some first
    by true is (inr later) rest = absurd (low next (inl refl) is (above_among cmp key (key next) xs x up.0 later))
    by false is (inl first) rest = let fails : test x ≡ false = subst (λ (y : X). test y ≡ false) first is in cc
    by false is (inr later) rest = rest later

-- the slot that a search tells

abbrev pub slot_of : Result ℕ ℕ → ℕ
slot_of (Ok slot) = slot
slot_of (Err slot) = slot

found_before : {K X : Type 0} (cmp : K → K → Ordering) (key : X → K) (k : K) (xs : List X) (i j : ℕ) (d : X) →
    IsFoundAt cmp key k xs i → j < i → cmp (key (get_or xs j d)) k ≡ Less
found_before cmp key k [] i j d is lt = absurd is
found_before cmp key k (x ∷ xs) zero j d is lt = absurd (omega arith)
found_before cmp key k (x ∷ xs) (suc i) zero d is lt = is.0
found_before cmp key k (x ∷ xs) (suc i) (suc j) d is lt = found_before cmp key k xs i j d is.1 (omega arith)

gap_before : {K X : Type 0} (cmp : K → K → Ordering) (key : X → K) (k : K) (xs : List X) (i j : ℕ) (d : X) →
    IsGapAt cmp key k xs i → j < i → cmp (key (get_or xs j d)) k ≡ Less
gap_before cmp key k xs zero j d is lt = absurd (omega arith)
gap_before cmp key k [] (suc i) j d is lt = absurd is
gap_before cmp key k (x ∷ xs) (suc i) zero d is lt = is.0
gap_before cmp key k (x ∷ xs) (suc i) (suc j) d is lt = gap_before cmp key k xs i j d is.1 (omega arith)

pub found_here : {K X : Type 0} (cmp : K → K → Ordering) (key : X → K) (k : K) (xs : List X) (i : ℕ) (d : X) →
    IsFoundAt cmp key k xs i → cmp (key (get_or xs i d)) k ≡ Equal
found_here cmp key k [] i d is = absurd is
found_here cmp key k (x ∷ xs) zero d is = is
found_here cmp key k (x ∷ xs) (suc i) d is = found_here cmp key k xs i d is.1

gap_here : {K X : Type 0} (cmp : K → K → Ordering) (key : X → K) (k : K) (xs : List X) (i : ℕ) (d : X) →
    IsGapAt cmp key k xs i → i < length xs → cmp (key (get_or xs i d)) k ≡ Greater
gap_here cmp key k [] i d is lt = absurd (omega arith)
gap_here cmp key k (x ∷ xs) zero d is lt = is.0
gap_here cmp key k (x ∷ xs) (suc i) d is lt = gap_here cmp key k xs i d is.1 (omega arith)

pub before_slot : {K X : Type 0} (cmp : K → K → Ordering) (key : X → K) (k : K) (xs : List X) (r : Result ℕ ℕ) (j : ℕ) (d : X) →
    IsPlace cmp key k xs r → j < slot_of r → cmp (key (get_or xs j d)) k ≡ Less
before_slot cmp key k xs (Ok i) j d is lt = found_before cmp key k xs i j d is lt
before_slot cmp key k xs (Err i) j d is lt = gap_before cmp key k xs i j d is lt

pub at_slot : {K X : Type 0} (cmp : K → K → Ordering) (key : X → K) (k : K) (xs : List X) (r : Result ℕ ℕ) (d : X) →
    IsPlace cmp key k xs r → slot_of r < length xs → cmp (key (get_or xs (slot_of r) d)) k ≢ Less
at_slot cmp key k xs (Ok i) d is lt = λ less. let same = found_here cmp key k xs i d is in cc
at_slot cmp key k xs (Err i) d is lt = λ less. let more = gap_here cmp key k xs i d is lt in cc

-- rows of one home and name

and_both : (a b : Bool) → (a && b) ≡ true → (a ≡ true) × (b ≡ true)
and_both true b e = (refl, e)
and_both false b e = cc

no_id_below : (id : List ℕ) → id_cmp id [] ≢ Less
no_id_below [] = λ e. cc
no_id_below (x ∷ xs) = λ e. cc

pub id_equal : (a b : List ℕ) → a ≡ b → id_cmp a b ≡ Equal
id_equal a b e = subst (λ (x : List ℕ). id_cmp a x ≡ Equal) e (tied_itself nat_list_cmp_total a)

named_true : {R : Type 0} (home naming : R → List ℕ) (h n : List ℕ) (x : R) → is_named home naming h n x ≡ true → (home x ≡ h) × (naming x ≡ n)
named_true home naming h n x e =
    let both = and_both (same (home x) h) (same (naming x) n) e in
    ((bytes_eq-Decides (home x) h).0 both.0, (bytes_eq-Decides (naming x) n).0 both.1)

named_is : {R : Type 0} (home naming : R → List ℕ) (h n : List ℕ) (x : R) → home x ≡ h → naming x ≡ n → is_named home naming h n x ≡ true
named_is home naming h n x at called =
    let first : same (home x) h ≡ true = (bytes_eq-Decides (home x) h).1 at in
    let second : same (naming x) n ≡ true = (bytes_eq-Decides (naming x) n).1 called in
    rw first second

-- what comes before the first id has not the name
pub name_below : {R : Type 0} (home naming key : R → List ℕ) (h n : List ℕ) (x : R) →
    full_cmp (full_name home naming key x) ((n, h), []) ≡ Less → is_named home naming h n x ≡ false
name_below {R} home naming key h n x less = by (is_named home naming h n x) refl
  where
    by : (b : Bool) → is_named home naming h n x ≡ b → b ≡ false
    by false is = refl
    by true is =
        let names = named_true home naming h n x is in
        let first = id_equal (home x) h names.0 in
        let second = id_equal (naming x) n names.1 in
        let last : id_cmp (key x) [] ≡ Less = rw (second, first) at less in
        absurd (no_id_below (key x) last)

-- nor has what comes after one that is behind it and has another
pub name_above : {R : Type 0} (home naming key : R → List ℕ) (h n : List ℕ) (x y : R) → full_cmp (full_name home naming key x) ((n, h), []) ≢ Less →
    is_named home naming h n x ≡ false → full_cmp (full_name home naming key x) (full_name home naming key y) ≡ Less → is_named home naming h n y ≡ false
name_above {R} home naming key h n x y behind other less = by (is_named home naming h n y) refl
  where
    names_by : home y ≡ h → naming y ≡ n → (o : Ordering) → name_cmp (naming x, home x) (n, h) ≡ o → ⊥
    names_by at called Less is = behind (ap (λ o. ordering_then o (id_cmp (key x) [])) is)
    names_by at called Equal is =
        let both = then_equal (id_cmp (naming x) n) (id_cmp (home x) h) is in
        let same = named_is home naming h n x (id_exact (home x) h both.1) (id_exact (naming x) n both.0) in
        cc
    names_by at called Greater is =
        let there : name_cmp (naming x, home x) (naming y, home y) ≡ Greater = rw (called, at) is in
        let more : full_cmp (full_name home naming key x) (full_name home naming key y) ≡ Greater = ap (λ o. ordering_then o (id_cmp (key x) (key y))) there in
        cc

    by : (b : Bool) → is_named home naming h n y ≡ b → b ≡ false
    by false is = refl
    by true is = let names = named_true home naming h n y is in absurd (names_by names.0 names.1 (name_cmp (naming x, home x) (n, h)) refl)

-- rows of one name go by their ids
named_order : {R : Type 0} (home naming key : R → List ℕ) (h n : List ℕ) (x y : R) → is_named home naming h n x ≡ true → is_named home naming h n y ≡ true →
    full_cmp (full_name home naming key x) (full_name home naming key y) ≡ Less → id_cmp (key x) (key y) ≡ Less
named_order home naming key h n x y first second less =
    let one = named_true home naming h n x first in
    let two = named_true home naming h n y second in
    let homes = id_equal (home x) (home y) (one.0 ∙ sym two.0) in
    let names = id_equal (naming x) (naming y) (one.1 ∙ sym two.1) in
    rw (names, homes) at less

-- the first slot that passes has the row that is found
pub found_at_slot : {R : Type 0} (home naming key : R → List ℕ) (h n : List ℕ) (test : R → Bool) (rows listed : List R) (places : List ℕ) (slot : ℕ) (d : R) →
    AreNamesOf home naming key rows places → AreListed key rows listed → ((y : R) → test y ≡ true → is_named home naming h n y ≡ true) →
    ((j : ℕ) → j < slot → test (row_in rows places j d) ≡ false) → slot < length places → test (row_in rows places slot d) ≡ true →
    find test listed ≡ Some (row_in rows places slot d)
found_at_slot {R} home naming key h n test rows listed places slot d index list named before lt pass = first_is id_cmp key test listed x list.up (list.forth x here) pass low
  where
    x : R
    x = row_in rows places slot d

    here : Among rows x
    here = get_among rows (get_or places slot 0) d (all_at (λ p. p < length rows) places slot 0 index.within lt)

    by : (y : R) (j : ℕ) → j < length places → row_in rows places j d ≡ y → test y ≡ true → id_cmp (key y) (key x) ≡ Less → (j < slot) ⊎ (slot ≤ j) → (slot < j) ⊎ (j ≤ slot) → ⊥
    by y j inside is passes less (inl early) any =
        let fails : test y ≡ false = subst (λ (z : R). test z ≡ false) is (before j early) in cc
    by y j inside is passes less (inr late) (inl later) =
        let above : full_cmp (full_name home naming key x) (full_name home naming key (row_in rows places j d)) ≡ Less =
        ascending_at full_cmp (λ p. full_name home naming key (get_or rows p d)) places slot j 0 (index.up d) later inside in
        let there = subst (λ (z : R). full_cmp (full_name home naming key x) (full_name home naming key z) ≡ Less) is above in
        let order = named_order home naming key h n x y (named x pass) (named y passes) there in
        let back : id_cmp (key y) (key x) ≡ Greater = nat_list_cmp_total.antisymm (key y) (key x) ∙ ap ordering_reverse order in
        cc
    by y j inside is passes less (inr late) (inr early) =
        let one : j ≡ slot = omega arith in
        let same : x ≡ y = ap (λ s. row_in rows places s d) (sym one) ∙ is in
        let tied = id_equal (key y) (key x) (ap key (sym same)) in
        cc

    low : (y : R) → Among listed y → test y ≡ true → id_cmp (key y) (key x) ≢ Less
    low y among passes less =
        let place = among_get rows y d (list.back y among) in
        let slotted = among_get places place.0 0 (index.all place.0 place.1) in
        let is : row_in rows places slotted.0 d ≡ y = ap (λ p. get_or rows p d) slotted.2 ∙ place.2 in
        by y slotted.0 slotted.1 is passes less (below_or_not slotted.0 slot) (below_or_not slot slotted.0)

-- no row is found where neither those before the slot pass, nor the one there, nor those behind it
none_at_slot : {R : Type 0} (home naming key : R → List ℕ) (test : R → Bool) (rows listed : List R) (places : List ℕ) (slot : ℕ) →
    AreNamesOf home naming key rows places → AreListed key rows listed → ((j : ℕ) (d : R) → j < slot → j < length places → test (row_in rows places j d) ≡ false) →
    ((d : R) → slot < length places → test (row_in rows places slot d) ≡ false) →
    ((d y : R) → slot < length places → full_cmp (full_name home naming key (row_in rows places slot d)) (full_name home naming key y) ≡ Less → test y ≡ false) →
    find test listed ≡ None
none_at_slot {R} home naming key test rows listed places slot index list before here behind = none_from test listed none
  where
    by : (d : R) (j : ℕ) → j < length places → (j < slot) ⊎ (slot ≤ j) → (slot < j) ⊎ (j ≤ slot) → test (row_in rows places j d) ≡ false
    by d j inside (inl early) any = before j d early inside
    by d j inside (inr late) (inl later) =
        behind d (row_in rows places j d) (omega arith)
        (ascending_at full_cmp (λ p. full_name home naming key (get_or rows p d)) places slot j 0 (index.up d) later inside)
    by d j inside (inr late) (inr early) =
        let one : slot ≡ j = omega arith in
        subst (λ s. test (row_in rows places s d) ≡ false) one (here d (omega arith))

    none : (y : R) → Among listed y → test y ≡ false
    none y among =
        let place = among_get rows y y (list.back y among) in
        let slotted = among_get places place.0 0 (index.all place.0 place.1) in
        let is : row_in rows places slotted.0 y ≡ y = ap (λ p. get_or rows p y) slotted.2 ∙ place.2 in
        subst (λ (z : R). test z ≡ false) is (by y slotted.0 slotted.1 (below_or_not slotted.0 slot) (below_or_not slot slotted.0))

-- what a search by name tells of a slot: no row before it has the name, and the one there is not below it
pub record IsFirstSlot {R : Type 0} (home naming key : R → List ℕ) (h n : List ℕ) (rows : List R) (places : List ℕ) (slot : ℕ) : Type 0 where
  pub before : (j : ℕ) (d : R) → j < slot → j < length places → is_named home naming h n (row_in rows places j d) ≡ false
  pub behind : (d : R) → slot < length places → full_cmp (full_name home naming key (row_in rows places slot d)) ((n, h), []) ≢ Less

-- and what a look there tells
abbrev pub Looked : {R : Type 0} → (R → List ℕ) → (R → List ℕ) → List ℕ → List ℕ → List R → List ℕ → ℕ → Option (Bor R) → Type 0
Looked home naming h n rows places slot (Some row) =
    (slot < length places) × (row.now ≡ row_in rows places slot row.now) × (is_named home naming h n row.now ≡ true)
Looked home naming h n rows places slot None = (d : _) → slot < length places → is_named home naming h n (row_in rows places slot d) ≡ false

pub looked : {R : Type 0} (home naming : R → List ℕ) (h n : List ℕ) (rows : List R) (places : List ℕ) (slot : ℕ) (r : Option (Bor R)) →
    IfSome r (λ row. (slot < length places) × (row.now ≡ row_in rows places slot row.now) × IsTrue (is_named home naming h n row.now)) →
    IfNone r ((d : R) → slot < length places → is_named home naming h n (row_in rows places slot d) ≡ false) → Looked home naming h n rows places slot r
looked home naming h n rows places slot (Some row) some none = some
looked home naming h n rows places slot None some none = none

pub named_looked : {R : Type 0} (home naming key : R → List ℕ) (h n : List ℕ) (rows listed : List R) (places : List ℕ) (slot : ℕ) (r : Option (Bor R)) →
    AreNamesOf home naming key rows places → AreListed key rows listed → IsFirstSlot home naming key h n rows places slot →
    Looked home naming h n rows places slot r → option_copied r ≡ find (is_named home naming h n) listed
named_looked {R} home naming key h n rows listed places slot (Some row) index list first (lt, is, named) =
    let x = row.now in
    let here : is_named home naming h n (row_in rows places slot x) ≡ true = subst (λ (z : R). is_named home naming h n z ≡ true) is named in
    ap Some is ∙ sym (found_at_slot home naming key h n (is_named home naming h n) rows listed places slot x index list (λ y e. e) (λ j less. first.before j x less (omega arith)) lt here)
named_looked {R} home naming key h n rows listed places slot None index list first none =
    sym (none_at_slot home naming key (is_named home naming h n) rows listed places slot index list first.before none
    (λ d y lt less. name_above home naming key h n (row_in rows places slot d) y (first.behind d lt) (none d lt) less))

-- the same of the others with the name of a row

pub first_like : {R : Type 0} (home naming key : R → List ℕ) (h n : List ℕ) (row : R) (rows : List R) (places : List ℕ) (slot : ℕ) →
    h ≡ home row → n ≡ naming row → IsFirstSlot home naming key h n rows places slot → IsFirstSlot home naming key (home row) (naming row) rows places slot
first_like home naming key h n row rows places slot at called first =
    subst (λ m. IsFirstSlot home naming key (home row) m rows places slot) called (subst (λ g. IsFirstSlot home naming key g n rows places slot) at first)

pub looked_like : {R : Type 0} (home naming : R → List ℕ) (h n : List ℕ) (row : R) (rows : List R) (places : List ℕ) (slot : ℕ) →
    h ≡ home row → n ≡ naming row → (r : Option (Bor R)) → Looked home naming h n rows places slot r → Looked home naming (home row) (naming row) rows places slot r
looked_like home naming h n row rows places slot at called r look =
    subst (λ m. Looked home naming (home row) m rows places slot r) called (subst (λ g. Looked home naming g n rows places slot r) at look)

pub is_unlike : (b : Bool) → true ≡ not b → b ≡ false
is_unlike true e = cc
is_unlike false e = refl

pub is_like : (b : Bool) → false ≡ not b → b ≡ true
is_like true e = refl
is_like false e = cc

pub other_none : {R : Type 0} (home naming key : R → List ℕ) (row : R) (rows listed : List R) (places : List ℕ) (slot : ℕ) →
    AreNamesOf home naming key rows places → AreListed key rows listed → IsFirstSlot home naming key (home row) (naming row) rows places slot →
    Looked home naming (home row) (naming row) rows places slot None → find (is_other_named home naming key row) listed ≡ None
other_none {R} home naming key row rows listed places slot index list first none =
    none_at_slot home naming key (is_other_named home naming key row) rows listed places slot index list
    (λ j d less inside. and_none (not (same (key (row_in rows places j d)) (key row))) (is_named home naming (home row) (naming row) (row_in rows places j d)) (first.before j d less inside))
    (λ d lt. and_none (not (same (key (row_in rows places slot d)) (key row))) (is_named home naming (home row) (naming row) (row_in rows places slot d)) (none d lt))
    (λ d y lt less. and_none (not (same (key y) (key row))) (is_named home naming (home row) (naming row) y)
    (name_above home naming key (home row) (naming row) (row_in rows places slot d) y (first.behind d lt) (none d lt) less))

pub other_looked : {R : Type 0} (home naming key : R → List ℕ) (row : R) (rows listed : List R) (places : List ℕ) (slot : ℕ) (x : Bor R) →
    AreNamesOf home naming key rows places → AreListed key rows listed → IsFirstSlot home naming key (home row) (naming row) rows places slot →
    Looked home naming (home row) (naming row) rows places slot (Some x) → same (key x.now) (key row) ≡ false →
    find (is_other_named home naming key row) listed ≡ Some x.now
other_looked {R} home naming key row rows listed places slot x index list first (lt, is, named) other =
    let test = is_other_named home naming key row in
    let passes : test x.now ≡ true = rw other named in
    found_at_slot home naming key (home row) (naming row) test rows listed places slot x.now index list
    (λ y e. (and_both (not (same (key y) (key row))) (is_named home naming (home row) (naming row) y) e).1)
    (λ j less. and_none (not (same (key (row_in rows places j x.now)) (key row))) (is_named home naming (home row) (naming row) (row_in rows places j x.now)) (first.before j x.now less (omega arith)))
    lt (subst (λ (z : R). test z ≡ true) is passes)
    ∙ ap Some (sym is)

-- where the first of the name is the row's own, the next slot decides
next_before : {R : Type 0} (home naming key : R → List ℕ) (row : R) (rows : List R) (places : List ℕ) (slot : ℕ) (x : Bor R) →
    AreNamesOf home naming key rows places → IsFirstSlot home naming key (home row) (naming row) rows places slot →
    Looked home naming (home row) (naming row) rows places slot (Some x) → same (key x.now) (key row) ≡ true →
    (j : ℕ) (d : R) → j < slot + 1 → j < length places → is_other_named home naming key row (row_in rows places j d) ≡ false
next_before {R} home naming key row rows places slot x index first (lt, is, named) own j d less inside = by (below_or_not j slot)
  where
    by : (j < slot) ⊎ (slot ≤ j) → is_other_named home naming key row (row_in rows places j d) ≡ false
    by (inl early) =
        and_none (not (same (key (row_in rows places j d)) (key row))) (is_named home naming (home row) (naming row) (row_in rows places j d)) (first.before j d early inside)
    by (inr late) =
        let one : slot ≡ j = omega arith in
        let any : row_in rows places slot x.now ≡ row_in rows places slot d =
        get_any rows (get_or places slot 0) x.now d (all_at (λ p. p < length rows) places slot 0 index.within lt) in
        let there : x.now ≡ row_in rows places j d = is ∙ any ∙ ap (λ s. row_in rows places s d) one in
        let same_id : same (key (row_in rows places j d)) (key row) ≡ true = subst (λ (z : R). same (key z) (key row) ≡ true) there own in
        rw same_id refl

pub next_looked : {R : Type 0} (home naming key : R → List ℕ) (row : R) (rows listed : List R) (places : List ℕ) (slot : ℕ) (x : Bor R) (r : Option (Bor R)) →
    AreNamesOf home naming key rows places → AreListed key rows listed → IsFirstSlot home naming key (home row) (naming row) rows places slot →
    Looked home naming (home row) (naming row) rows places slot (Some x) → same (key x.now) (key row) ≡ true →
    Looked home naming (home row) (naming row) rows places (slot + 1) r → option_copied r ≡ find (is_other_named home naming key row) listed
next_looked {R} home naming key row rows listed places slot x (Some y) index list first (lt, is, named) own (after, at, called) =
    let test = is_other_named home naming key row in
    let key_at = λ (p : ℕ). full_name home naming key (get_or rows p x.now) in
    let within = all_at (λ p. p < length rows) places (slot + 1) 0 index.within after in
    let above : full_cmp (full_name home naming key (row_in rows places slot x.now)) (full_name home naming key (row_in rows places (slot + 1) x.now)) ≡ Less =
    ascending_at full_cmp key_at places slot (slot + 1) 0 (index.up x.now) (omega arith) after in
    let there : row_in rows places (slot + 1) x.now ≡ y.now = get_any rows (get_or places (slot + 1) 0) x.now y.now within ∙ sym at in
    let more : full_cmp (full_name home naming key x.now) (full_name home naming key y.now) ≡ Less =
    subst (λ (z : R). full_cmp (full_name home naming key z) (full_name home naming key y.now) ≡ Less) (sym is)
    (subst (λ (z : R). full_cmp (full_name home naming key (row_in rows places slot x.now)) (full_name home naming key z) ≡ Less) there above) in
    let order = named_order home naming key (home row) (naming row) x.now y.now named called more in
    let passes : test y.now ≡ true = rw (another order (same (key y.now) (key row)) refl) called in
    ap Some at ∙ sym (found_at_slot home naming key (home row) (naming row) test rows listed places (slot + 1) y.now index list
    (λ z e. (and_both (not (same (key z) (key row))) (is_named home naming (home row) (naming row) z) e).1)
    (λ j less. next_before home naming key row rows places slot x index first (lt, is, named) own j y.now less (omega arith))
    after (subst (λ (z : R). test z ≡ true) at passes))
  where
    another : id_cmp (key x.now) (key y.now) ≡ Less → (b : Bool) → same (key y.now) (key row) ≡ b → same (key y.now) (key row) ≡ false
    another order false e = e
    another order true e =
        let mine = (bytes_eq-Decides (key x.now) (key row)).0 own in
        let yours = (bytes_eq-Decides (key y.now) (key row)).0 e in
        let tied = id_equal (key x.now) (key y.now) (mine ∙ sym yours) in
        cc
next_looked {R} home naming key row rows listed places slot x None index list first (lt, is, named) own none =
    sym (none_at_slot home naming key (is_other_named home naming key row) rows listed places (slot + 1) index list
    (next_before home naming key row rows places slot x index first (lt, is, named) own)
    (λ d after. and_none (not (same (key (row_in rows places (slot + 1) d)) (key row))) (is_named home naming (home row) (naming row) (row_in rows places (slot + 1) d)) (none d after))
    (λ d y after less. and_none (not (same (key y) (key row))) (is_named home naming (home row) (naming row) y)
    (name_above home naming key (home row) (naming row) (row_in rows places (slot + 1) d) y (beyond d after) (none d after) less)))
  where
    beyond : (d : R) → slot + 1 < length places → full_cmp (full_name home naming key (row_in rows places (slot + 1) d)) ((naming row, home row), []) ≢ Less
    beyond d after less =
        let above : full_cmp (full_name home naming key (row_in rows places slot d)) (full_name home naming key (row_in rows places (slot + 1) d)) ≡ Less =
        ascending_at full_cmp (λ p. full_name home naming key (get_or rows p d)) places slot (slot + 1) 0 (index.up d) (omega arith) after in
        first.behind d lt (full_total.trans (full_name home naming key (row_in rows places slot d)) (full_name home naming key (row_in rows places (slot + 1) d)) ((naming row, home row), []) above less)

-- what a search by the whole key tells

pub put_not_found : {R : Type 0} (home naming key : R → List ℕ) (rows : List R) (places : List ℕ) (at slot : ℕ) (row : R) → at < length rows →
    row ≡ get_or rows at row → AreUnlike key rows → AreNamesBut home naming key rows places at → slot < length places →
    IsFoundAt full_cmp (λ p. full_name home naming key (get_or rows p row)) (full_name home naming key row) places slot → ⊥
put_not_found {R} home naming key rows places at slot row lt is unlike but inside found =
    let place = get_or places slot 0 in
    let among = get_among places slot 0 inside in
    let within = all_among (λ p. p < length rows) places place but.within among in
    let one = full_exact (full_name home naming key (get_or rows place row)) (full_name home naming key row)
    (found_here full_cmp (λ p. full_name home naming key (get_or rows p row)) (full_name home naming key row) places slot 0 found) in
    let ids : key (get_or rows place row) ≡ key (get_or rows at row) = ap (λ full. full.1) one ∙ ap key is in
    but.others place among (unlike place at row within lt ids)

pub already_in : {R : Type 0} (home naming key : R → List ℕ) (rows : List R) (places : List ℕ) (at slot : ℕ) (row : R) → at < length rows →
    row ≡ get_or rows at row → AreUnlike key rows → ArePartNames home naming key rows places → slot < length places →
    IsFoundAt full_cmp (λ p. full_name home naming key (get_or rows p row)) (full_name home naming key row) places slot → Among places at
already_in {R} home naming key rows places at slot row lt is unlike part inside found =
    let place = get_or places slot 0 in
    let among = get_among places slot 0 inside in
    let within = all_among (λ p. p < length rows) places place part.within among in
    let one = full_exact (full_name home naming key (get_or rows place row)) (full_name home naming key row)
    (found_here full_cmp (λ p. full_name home naming key (get_or rows p row)) (full_name home naming key row) places slot 0 found) in
    let ids : key (get_or rows place row) ≡ key (get_or rows at row) = ap (λ full. full.1) one ∙ ap key is in
    subst (Among places) (unlike place at row within lt ids) among

pub put_into_part : {R : Type 0} (home naming key : R → List ℕ) (rows : List R) (places : List ℕ) (at slot : ℕ) (row : R) → at < length rows →
    row ≡ get_or rows at row → ArePartNames home naming key rows places →
    IsGapAt full_cmp (λ p. full_name home naming key (get_or rows p row)) (full_name home naming key row) places slot →
    ArePartNames home naming key rows (insert places slot at)
put_into_part home naming key rows places at slot row lt is part gap =
    part_put full_cmp (full_name home naming key) full_total rows places at slot row lt part
    (subst (λ (r : _). IsGapAt full_cmp (λ p. full_name home naming key (get_or rows p row)) (full_name home naming key r) places slot) is gap)

pub put_into_names : {R : Type 0} (home naming key : R → List ℕ) (rows : List R) (places : List ℕ) (at slot : ℕ) (row : R) → at < length rows →
    row ≡ get_or rows at row → AreNamesBut home naming key rows places at →
    IsGapAt full_cmp (λ p. full_name home naming key (get_or rows p row)) (full_name home naming key row) places slot →
    AreNamesOf home naming key rows (insert places slot at)
put_into_names {R} home naming key rows places at slot row lt is but gap =
    in_index full_cmp (full_name home naming key) full_total rows places at slot row lt but
    (subst (λ (z : R). IsGapAt full_cmp (λ p. full_name home naming key (get_or rows p row)) (full_name home naming key z) places slot) is gap)

pub out_not_gap : {R : Type 0} (home naming key : R → List ℕ) (rows : List R) (places : List ℕ) (at slot : ℕ) (row : R) → at < length rows →
    row ≡ get_or rows at row → AreNamesOf home naming key rows places →
    IsGapAt full_cmp (λ p. full_name home naming key (get_or rows p row)) (full_name home naming key row) places slot → ⊥
out_not_gap {R} home naming key rows places at slot row lt is index gap =
    let key_at = λ (p : ℕ). full_name home naming key (get_or rows p row) in
    let none = find_gap full_cmp key_at (full_name home naming key row) places slot gap in
    let some = among_found full_cmp key_at full_total places at (index.up row) (index.all at lt) in
    let here = subst (λ (z : R). find_row full_cmp key_at (full_name home naming key z) places ≡ Some at) (sym is) some in
    cc

pub out_of_names : {R : Type 0} (home naming key : R → List ℕ) (rows : List R) (places : List ℕ) (at slot : ℕ) (row : R) → at < length rows →
    row ≡ get_or rows at row → AreNamesOf home naming key rows places →
    IsFoundAt full_cmp (λ p. full_name home naming key (get_or rows p row)) (full_name home naming key row) places slot →
    AreNamesBut home naming key rows (remove places slot) at
out_of_names {R} home naming key rows places at slot row lt is index found =
    let key_at = λ (p : ℕ). full_name home naming key (get_or rows p row) in
    let gone = drop_found full_cmp key_at full_total (full_name home naming key row) places slot (index.up row) found in
    let there = ap (λ (z : R). drop_row full_cmp key_at (full_name home naming key z) places) (sym is) ∙ gone in
    subst (λ l. AreNamesBut home naming key rows l at) there (out_index full_cmp (full_name home naming key) full_total full_exact rows places at row lt index)
