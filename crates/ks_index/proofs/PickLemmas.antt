-- The rows at the places of an index.
use Rattle.std.proofs.Common.{◌≡◌, ◌≢◌, ◌⊎◌, inl, inr, ℕ, zero, suc, ◌+◌, ◌<◌, ◌≤◌, List, [], ◌∷◌, ◌++◌, length, map, take, drop, get_or, Bor, IfOk, Some, Result, Ok, Err, refl, sym, ap, subst, ◌∙◌, arith}
use Rattle.std.proofs.Math.ListN.{set}
use Rattle.std.specs.List.{AllByRecursion, insert, remove}
use Rattle.std.specs.declared.cmp.Ordering.{Ordering}
use Rattle.std.specs.declared.cmp.Ordering.TheVariants.{Less, Equal, Greater}
use Rattle.std.specs.Cmp.{IsTotalOrder}
use Rattle.std.specs.Iterator.{MakesProgress, item_count}
use Rattle.std.proofs.lemmas.Cmp.{nat_list_cmp_total, tied_itself}
use Rattle.std.proofs.lemmas.List.{get_or-map, get_or-set_other, get_or-set_same, length-map, length-set, take_more}
use Rattle.std.proofs.lemmas.List.Edits.{get_or-insert_at, length-insert}
use Rattle.ks_base.specs.Tables.{id_cmp, Among, IsAscending}
use Rattle.ks_base.specs.Places.{IsFoundAt, IsGapAt, IsPlace}
use Rattle.ks_base.proofs.AmongLemmas.{all_among, among_all, among_left, among_mapped, among_push, among_right, get_among, map_among}
use Rattle.ks_base.proofs.LinkLemmas.{none_left}
use Rattle.ks_base.proofs.RowLemmas.{same_row}
use Rattle.ks_index.specs.Indexes.{AreListed, AreUnlike, IsIndex, below, picked}
use Rattle.ks_index.proofs.IndexLemmas.{ascending_mapped, below_or_not, get_pushed, pushed_index, in_index, same_place}
use Rattle.ks_index.proofs.MappedLemmas.{insert_mapped, remove_mapped, place_mapped}
use Rattle.ks_index.proofs.NameLemmas.{among_get, ascending_at, found_here, id_equal}

-- maps

pub map_alike : {X Y : Type 0} (f g : X → Y) (xs : List X) → ((x : X) → Among xs x → f x ≡ g x) → map f xs ≡ map g xs
map_alike f g [] alike = refl
map_alike {X} {Y} f g (x ∷ xs) alike =
    ap (λ (y : Y). y ∷ map f xs) (alike x (inl refl)) ∙ ap (λ (l : List Y). g x ∷ l) (map_alike f g xs (λ z among. alike z (inr among)))

map_set : {X Y : Type 0} (f g : X → Y) (xs : List X) (i : ℕ) (y : Y) (d : X) → i < length xs → g (get_or xs i d) ≡ y →
    ((j : ℕ) → j < length xs → j ≢ i → g (get_or xs j d) ≡ f (get_or xs j d)) → map g xs ≡ set (map f xs) i y
map_set f g [] i y d lt is others = absurd (omega arith)
map_set {X} {Y} f g (x ∷ xs) zero y d lt is others =
    ap (λ (z : Y). z ∷ map g xs) is ∙ ap (λ (l : List Y). y ∷ l) (rest xs (λ j less. others (suc j) (omega arith) (λ e. omega (arith, e))))
  where
    rest : (zs : List X) → ((j : ℕ) → j < length zs → g (get_or zs j d) ≡ f (get_or zs j d)) → map g zs ≡ map f zs
    rest [] alike = refl
    rest (z ∷ zs) alike = ap (λ (w : Y). w ∷ map g zs) (alike zero (omega arith)) ∙ ap (λ (l : List Y). f z ∷ l) (rest zs (λ j less. alike (suc j) (omega arith)))
map_set {X} {Y} f g (x ∷ xs) (suc i) y d lt is others =
    ap (λ (z : Y). z ∷ map g xs) (others zero (omega arith) (λ e. omega (arith, e)))
    ∙ ap (λ (l : List Y). f x ∷ l) (map_set f g xs i y d (omega arith) is (λ j less other. others (suc j) (omega arith) (λ e. other (omega (arith, e)))))

map_append : {X Y : Type 0} (f : X → Y) (xs ys : List X) → map f (xs ++ ys) ≡ map f xs ++ map f ys
map_append f [] ys = refl
map_append {X} {Y} f (x ∷ xs) ys = ap (λ (l : List Y). f x ∷ l) (map_append f xs ys)

all_unmapped : {X Y : Type 0} (P : Y → Type 0) (f : X → Y) (xs : List X) → AllByRecursion P (map f xs) → AllByRecursion (λ x. P (f x)) xs
all_unmapped P f [] all = tt
all_unmapped P f (x ∷ xs) all = (all.0, all_unmapped P f xs all.1)

gap_unmapped : {K X Y : Type 0} (cmp : K → K → Ordering) (key : Y → K) (f : X → Y) (k : K) (xs : List X) (i : ℕ) →
    IsGapAt cmp key k (map f xs) i → IsGapAt cmp (λ x. key (f x)) k xs i
gap_unmapped cmp key f k xs zero is = all_unmapped (λ y. cmp (key y) k ≡ Greater) f xs is
gap_unmapped cmp key f k [] (suc i) is = absurd is
gap_unmapped cmp key f k (x ∷ xs) (suc i) is = (is.0, gap_unmapped cmp key f k xs i is.1)

gap_alike : {K X : Type 0} (cmp : K → K → Ordering) (f g : X → K) (k : K) (xs : List X) (i : ℕ) → ((x : X) → Among xs x → f x ≡ g x) →
    IsGapAt cmp f k xs i → IsGapAt cmp g k xs i
gap_alike {K} {X} cmp f g k xs zero alike is =
    among_all (λ x. cmp (g x) k ≡ Greater) xs (λ x among. subst (λ (y : K). cmp y k ≡ Greater) (alike x among) (all_among (λ x. cmp (f x) k ≡ Greater) xs x is among))
gap_alike cmp f g k [] (suc i) alike is = absurd is
gap_alike {K} cmp f g k (x ∷ xs) (suc i) alike is =
    (subst (λ (y : K). cmp y k ≡ Less) (alike x (inl refl)) is.0, gap_alike cmp f g k xs i (λ y among. alike y (inr among)) is.1)

-- the rows at places

one_at : {X : Type 0} (rows : List X) (p : ℕ) (d : X) → p < length rows → take 1 (drop p rows) ≡ get_or rows p d ∷ []
one_at [] p d lt = absurd (omega arith)
one_at (x ∷ xs) zero d lt = refl
one_at (x ∷ xs) (suc p) d lt = one_at xs p d (omega arith)

pub picked_is : {X : Type 0} (rows : List X) (places : List ℕ) (d : X) → AllByRecursion (λ p. p < length rows) places → picked rows places ≡ map (λ p. get_or rows p d) places
unfolding picked
picked_is rows [] d within = refl
picked_is {X} rows (p ∷ places) d within =
    ap (λ (l : List X). l ++ picked rows places) (one_at rows p d within.0) ∙ ap (λ (l : List X). get_or rows p d ∷ l) (picked_is rows places d within.1)

pub picked_length : {X : Type 0} (rows : List X) (places : List ℕ) → AllByRecursion (λ p. p < length rows) places → length (picked rows places) ≡ length places
unfolding picked
picked_length [] [] within = refl
picked_length [] (p ∷ places) within = absurd (omega (arith, within.0))
picked_length (x ∷ xs) places within = ap length (picked_is (x ∷ xs) places x within) ∙ length-map places (λ p. get_or (x ∷ xs) p x)

pub picked_get : {X : Type 0} (rows : List X) (places : List ℕ) (i : ℕ) (d : X) → AllByRecursion (λ p. p < length rows) places → i < length places →
    get_or (picked rows places) i d ≡ get_or rows (get_or places i 0) d
picked_get {X} rows places i d within lt =
    ap (λ (l : List X). get_or l i d) (picked_is rows places d within) ∙ get_or-map (λ p. get_or rows p d) places i 0 d lt

pub picked_place : {K X : Type 0} (cmp : K → K → Ordering) (key : X → K) (k : K) (rows : List X) (places : List ℕ) (d : X) (r : Result ℕ ℕ) →
    AllByRecursion (λ p. p < length rows) places → IsPlace cmp (λ p. key (get_or rows p d)) k places r → IsPlace cmp key k (picked rows places) r
picked_place cmp key k rows places d r within is =
    subst (λ (l : List _). IsPlace cmp key k l r) (sym (picked_is rows places d within)) (place_mapped cmp key (λ p. get_or rows p d) k places r is)

pub picked_up : {K X : Type 0} (cmp : K → K → Ordering) (key : X → K) (rows : List X) (places : List ℕ) → IsIndex cmp key rows places → IsAscending cmp key (picked rows places)
unfolding picked
picked_up cmp key [] [] index = tt
picked_up cmp key [] (p ∷ places) index = absurd (omega (arith, index.within.0))
picked_up cmp key (x ∷ xs) places index =
    subst (λ (l : List _). IsAscending cmp key l) (sym (picked_is (x ∷ xs) places x index.within))
    (ascending_mapped cmp key (λ p. get_or (x ∷ xs) p x) places (index.up x))

pub picked_listed : {X : Type 0} (key : X → List ℕ) (rows : List X) (places : List ℕ) → IsIndex id_cmp key rows places → AreListed key rows (picked rows places)
picked_listed {X} key rows places index = record { up = picked_up id_cmp key rows places index; forth = forth; back = back }
  where
    forth : (x : X) → Among rows x → Among (picked rows places) x
    forth x among =
        let place = among_get rows x x among in
        subst (λ (l : List X). Among l x) (sym (picked_is rows places x index.within))
        (subst (Among (map (λ p. get_or rows p x) places)) place.2 (map_among (λ p. get_or rows p x) places place.0 (index.all place.0 place.1)))

    back : (x : X) → Among (picked rows places) x → Among rows x
    back x among =
        let one = among_mapped (λ p. get_or rows p x) places x (subst (λ (l : List X). Among l x) (picked_is rows places x index.within) among) in
        subst (Among rows) one.2 (get_among rows one.0 x (all_among (λ p. p < length rows) places one.0 index.within one.1))

-- rows of an index by exact keys are unlike
pub index_unlike : {K X : Type 0} (cmp : K → K → Ordering) (key : X → K) → IsTotalOrder cmp → (rows : List X) (places : List ℕ) → IsIndex cmp key rows places → AreUnlike key rows
index_unlike {K} cmp key o rows places index p q d first second same =
    same_row cmp (λ i. key (get_or rows i d)) o places p q (index.up d) (index.all p first) (index.all q second) same

pub ascending_unlike : {X : Type 0} (key : X → List ℕ) (rows : List X) → IsAscending id_cmp key rows → AreUnlike key rows
ascending_unlike key rows up p q d first second same =
    same_place id_cmp key nat_list_cmp_total rows p q d up first second (id_equal (key (get_or rows p d)) (key (get_or rows q d)) same)

-- a row comes in behind all others, and its place into the index
pub picked_insert : {X : Type 0} (rows : List X) (places : List ℕ) (at : ℕ) (row : X) → AllByRecursion (λ p. p < length rows) places →
    AllByRecursion (λ p. p < length (insert rows (length rows) row)) (insert places at (length rows)) →
    picked (insert rows (length rows) row) (insert places at (length rows)) ≡ insert (picked rows places) at row
picked_insert {X} rows places at row within more =
    picked_is (insert rows (length rows) row) (insert places at (length rows)) row more
    ∙ insert_mapped new places at (length rows)
    ∙ ap (λ (l : List X). insert l at (new (length rows))) (map_alike new (λ p. get_or rows p row) places (λ p among. get_pushed rows row row p (all_among (λ q. q < length rows) places p within among)))
    ∙ ap (insert (map (λ p. get_or rows p row) places) at) (get_or-insert_at rows (length rows) row row (omega arith))
    ∙ ap (λ (l : List X). insert l at row) (sym (picked_is rows places row within))
  where
    new : ℕ → X
    new p = get_or (insert rows (length rows) row) p row

pub index_insert : {K X : Type 0} (cmp : K → K → Ordering) (key : X → K) → IsTotalOrder cmp → (rows : List X) (places : List ℕ) (at : ℕ) (row : X) →
    IsIndex cmp key rows places → IsGapAt cmp key (key row) (picked rows places) at → IsIndex cmp key (insert rows (length rows) row) (insert places at (length rows))
index_insert {K} {X} cmp key o rows places at row index gap =
    in_index cmp key o (insert rows (length rows) row) places (length rows) at row (omega (arith, length-insert rows (length rows) row (omega arith)))
    (pushed_index cmp key rows places row index)
    (subst (λ (k : K). IsGapAt cmp new k places at) (sym (ap key (get_or-insert_at rows (length rows) row row (omega arith))))
    (gap_alike cmp (λ p. key (get_or rows p row)) new (key row) places at
    (λ p among. ap key (sym (get_pushed rows row row p (all_among (λ q. q < length rows) places p index.within among))))
    (gap_unmapped cmp key (λ p. get_or rows p row) (key row) places at (subst (λ (l : List X). IsGapAt cmp key (key row) l at) (picked_is rows places row index.within) gap))))
  where
    new : ℕ → K
    new p = key (get_or (insert rows (length rows) row) p row)

not_both : (o : Ordering) → o ≡ Equal → o ≡ Less → ⊥
not_both Less equal less = cc
not_both Equal equal less = cc
not_both Greater equal less = cc

pub picked_remove : {X : Type 0} (rows : List X) (places : List ℕ) (at : ℕ) (d : X) → AllByRecursion (λ p. p < length rows) places →
    AllByRecursion (λ p. p < length rows) (remove places at) → picked rows (remove places at) ≡ remove (picked rows places) at
picked_remove {X} rows places at d within left =
    picked_is rows (remove places at) d left ∙ remove_mapped (λ p. get_or rows p d) places at ∙ ap (λ (l : List X). remove l at) (sym (picked_is rows places d within))

-- places differ
pub differ_at : {K : Type 0} (cmp : K → K → Ordering) (key : ℕ → K) → IsTotalOrder cmp → (places : List ℕ) (i j : ℕ) → IsAscending cmp key places →
    i < length places → j < length places → j ≢ i → get_or places j 0 ≢ get_or places i 0
differ_at {K} cmp key o places i j up first second other is = by (below_or_not i j) (below_or_not j i)
  where
    tied : cmp (key (get_or places i 0)) (key (get_or places i 0)) ≡ Equal
    tied = tied_itself o (key (get_or places i 0))

    by : (i < j) ⊎ (j ≤ i) → (j < i) ⊎ (i ≤ j) → ⊥
    by (inl less) any =
        let above = ascending_at cmp key places i j 0 up less second in
        absurd (not_both (cmp (key (get_or places i 0)) (key (get_or places i 0))) tied (subst (λ p. cmp (key (get_or places i 0)) (key p) ≡ Less) is above))
    by (inr most) (inl less) =
        let above = ascending_at cmp key places j i 0 up less first in
        absurd (not_both (cmp (key (get_or places i 0)) (key (get_or places i 0))) tied (subst (λ p. cmp (key p) (key (get_or places i 0)) ≡ Less) is above))
    by (inr most) (inr least) = other (omega (arith, most, least))

-- a row takes the place of another
pub picked_set : {K X : Type 0} (cmp : K → K → Ordering) (key : X → K) → IsTotalOrder cmp → (rows : List X) (places : List ℕ) (at : ℕ) (row : X) →
    IsIndex cmp key rows places → at < length places → picked (set rows (get_or places at 0) row) places ≡ set (picked rows places) at row
picked_set {K} {X} cmp key o rows places at row index lt =
    picked_is (set rows slot row) places row (among_all (λ p. p < length (set rows slot row)) places (λ p among. omega (arith, length-set rows slot row, all_among (λ q. q < length rows) places p index.within among)))
    ∙ map_set (λ p. get_or rows p row) (λ p. get_or (set rows slot row) p row) places at row 0 lt
    (get_or-set_same rows slot row row (all_among (λ q. q < length rows) places slot index.within (get_among places at 0 lt)))
    (λ j less other. get_or-set_other rows slot (get_or places j 0) row row (differ_at cmp (λ p. key (get_or rows p row)) o places at j (index.up row) lt less other))
    ∙ ap (λ (l : List X). set l at row) (sym (picked_is rows places row index.within))
  where
    slot : ℕ
    slot = get_or places at 0

-- all places, in their order

pub below_among : (n p : ℕ) → Among (below n) p → p < n
unfolding below
below_among zero p among = absurd among
below_among (suc n) p among = by (among_push (below n) n p among) (λ before. below_among n p before)
  where
    by : Among (below n) p ⊎ (n ≡ p) → (Among (below n) p → p < n) → p < suc n
    by (inl before) less = omega (arith, less before)
    by (inr is) less = omega (arith, is)

pub among_below : (n p : ℕ) → p < n → Among (below n) p
unfolding below
among_below zero p lt = absurd (omega arith)
among_below (suc n) p lt = by (below_or_not p n) (λ less. among_below n p less)
  where
    by : (p < n) ⊎ (n ≤ p) → (p < n → Among (below n) p) → Among (below n ++ n ∷ []) p
    by (inl less) before = among_left (below n) (n ∷ []) p (before less)
    by (inr least) before = let is : n ≡ p = omega (arith, lt, least) in among_right (below n) (n ∷ []) p (inl is)

ascending_push : {K X : Type 0} (cmp : K → K → Ordering) (key : X → K) (xs : List X) (y : X) → IsAscending cmp key xs → ((x : X) → Among xs x → cmp (key x) (key y) ≡ Less) →
    IsAscending cmp key (xs ++ y ∷ [])
ascending_push cmp key [] y up above = (tt, tt)
ascending_push {K} {X} cmp key (x ∷ xs) y up above =
    (among_all (λ z. cmp (key x) (key z) ≡ Less) (xs ++ y ∷ []) (λ z among. by z (among_push xs y z among)), ascending_push cmp key xs y up.1 (λ z among. above z (inr among)))
  where
    by : (z : X) → Among xs z ⊎ (y ≡ z) → cmp (key x) (key z) ≡ Less
    by z (inl among) = all_among (λ w. cmp (key x) (key w) ≡ Less) xs z up.0 among
    by z (inr is) = subst (λ (w : X). cmp (key x) (key w) ≡ Less) is (above x (inl refl))

below_up : {K X : Type 0} (cmp : K → K → Ordering) (key : X → K) (rows : List X) (n : ℕ) (d : X) → n ≤ length rows → IsAscending cmp key rows →
    IsAscending cmp (λ p. key (get_or rows p d)) (below n)
unfolding below
below_up cmp key rows zero d le up = tt
below_up cmp key rows (suc n) d le up =
    ascending_push cmp (λ p. key (get_or rows p d)) (below n) n (below_up cmp key rows n d (omega arith) up)
    (λ p among. ascending_at cmp key rows p n d up (below_among n p among) (omega arith))

pub below_index : {K X : Type 0} (cmp : K → K → Ordering) (key : X → K) (rows : List X) → IsAscending cmp key rows → IsIndex cmp key rows (below (length rows))
below_index cmp key rows up = record {
  within = among_all (λ p. p < length rows) (below (length rows)) (below_among (length rows));
  all = λ p lt. among_below (length rows) p lt;
  up = λ d. below_up cmp key rows (length rows) d (omega arith) up;
}

below_taken : {X : Type 0} (rows : List X) (n : ℕ) (d : X) → n ≤ length rows → map (λ p. get_or rows p d) (below n) ≡ take n rows
unfolding below
below_taken rows zero d le = refl
below_taken {X} rows (suc n) d le =
    map_append (λ p. get_or rows p d) (below n) (n ∷ [])
    ∙ ap (λ (l : List X). l ++ get_or rows n d ∷ []) (below_taken rows n d (omega arith))
    ∙ sym (take_more rows n d (omega arith))
    ∙ (let next : n + 1 ≡ suc n = omega arith in ap (λ m. take m rows) next)

take_whole : {X : Type 0} (xs : List X) → take (length xs) xs ≡ xs
take_whole [] = refl
take_whole {X} (x ∷ xs) = ap (λ (l : List X). x ∷ l) (take_whole xs)

pub picked_below : {X : Type 0} (rows : List X) → picked rows (below (length rows)) ≡ rows
unfolding picked below
picked_below [] = refl
picked_below (x ∷ xs) =
    picked_is (x ∷ xs) (below (length (x ∷ xs))) x (among_all (λ p. p < length (x ∷ xs)) (below (length (x ∷ xs))) (below_among (length (x ∷ xs))))
    ∙ below_taken (x ∷ xs) (length (x ∷ xs)) x (omega arith)
    ∙ take_whole (x ∷ xs)

-- no rows

pub none_picked : {X : Type 0} (P : X → Type 0) (rows : List X) (places : List ℕ) → length rows ≡ 0 → AllByRecursion (λ p. p < length rows) places → AllByRecursion P (picked rows places)
unfolding picked
none_picked P rows [] none within = tt
none_picked P rows (p ∷ places) none within = absurd (omega (arith, none, within.0))

pub empty_picked : {X : Type 0} (rows : List X) (places : List ℕ) → length rows ≡ 0 → AllByRecursion (λ p. p < length rows) places → picked rows places ≡ []
unfolding picked
empty_picked rows [] none within = refl
empty_picked rows (p ∷ places) none within = absurd (omega (arith, none, within.0))

pub nothing_picked : {X : Type 0} (rows : List X) (places : List ℕ) → length places ≡ 0 → picked rows places ≡ []
unfolding picked
nothing_picked rows [] none = refl
nothing_picked rows (p ∷ places) none = absurd (omega (arith, none))

-- the first of the rows at places
pub first_picked : {X : Type 0} (rows : List X) (places rest : List ℕ) (first : ℕ) (row : X) → places ≡ first ∷ rest → row ≡ get_or rows first row → AllByRecursion (λ p. p < length rows) places →
    picked rows places ≡ row ∷ picked rows rest
unfolding picked
first_picked {X} rows places rest first row are is within =
    let all : AllByRecursion (λ p. p < length rows) (first ∷ rest) = subst (λ (l : List ℕ). AllByRecursion (λ p. p < length rows) l) are within in
    ap (picked rows) are ∙ ap (λ (l : List X). l ++ picked rows rest) (one_at rows first row all.0) ∙ ap (λ (x : X). x ∷ picked rows rest) (sym is)

pub rest_within : (places rest : List ℕ) (first n : ℕ) → places ≡ first ∷ rest → AllByRecursion (λ p. p < n) places → (first < n) × AllByRecursion (λ p. p < n) rest
rest_within places rest first n are within = subst (λ (l : List ℕ). AllByRecursion (λ p. p < n) l) are within

pub goes_on : {S A : Type 0} (can : S → Type 0) (rest : S → List A) (s t : S) (x : Bor A) → ((u : S) → can u) → rest s ≡ x.now ∷ rest t → MakesProgress can (item_count rest) s (Some x) t
goes_on can rest s t x any e = record {
  on = λ f. (any t, tt, (let n = ap length e in omega (arith, n)));
  keeps = any t;
  rests = λ f. tt;
}

pub below_next : (n : ℕ) → below n ++ n ∷ [] ≡ below (n + 1)
unfolding below
below_next n = let next : suc n ≡ n + 1 = omega arith in ap below next

pub below_none : below 0 ≡ []
unfolding below
below_none = refl

pub none_listed : {X : Type 0} (key : X → List ℕ) (rows listed : List X) → length rows ≡ 0 → AreListed key rows listed → listed ≡ []
none_listed key rows [] none list = refl
none_listed key rows (x ∷ xs) none list = absurd (none_left rows x none (list.back x (inl refl)))

-- the row that a search finds has the key
pub found_key : {K X : Type 0} (cmp : K → K → Ordering) (key : X → K) → ((a b : K) → cmp a b ≡ Equal → a ≡ b) → (k : K) (rows : List X) (places : List ℕ) (i : ℕ) (d : X) →
    AllByRecursion (λ p. p < length rows) places → i < length places → IsFoundAt cmp key k (picked rows places) i → key (get_or rows (get_or places i 0) d) ≡ k
found_key cmp key exact k rows places i d within lt found =
    ap key (sym (picked_get rows places i d within lt)) ∙ exact (key (get_or (picked rows places) i d)) k (found_here cmp key k (picked rows places) i d found)

pub if_ok : {A E : Type 0} (P Q : A → Type 0) (r : Result A E) → ((a : A) → P a → Q a) → IfOk r P → IfOk r Q
if_ok P Q (Ok a) to is = to a is
if_ok P Q (Err e) to is = tt
