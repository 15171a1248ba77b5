-- Indexes: places in the order of the keys of the rows there, and what each change of the rows leaves of them.
use Rattle.std.proofs.Common.{◌≡◌, ◌≢◌, ℕ, zero, suc, ◌+◌, ◌<◌, ◌≤◌, Bool, true, false, not, ◌⊎◌, inl, inr, List, [], ◌∷◌, ◌++◌, length, map, get_or, refl, sym, ap, subst, ◌∙◌, arith}
use Rattle.std.proofs.Math.ListN.{set}
use Rattle.std.specs.List.{AllByRecursion, filter, insert}
use Rattle.std.specs.declared.cmp.Ordering.{Ordering}
use Rattle.std.specs.declared.cmp.Ordering.TheVariants.{Equal}
use Rattle.std.specs.Ordering.{is_eq}
use Rattle.std.specs.Cmp.{IsTotalOrder}
use Rattle.std.proofs.lemmas.Cmp.{tied_itself, tied_back}
use Rattle.std.proofs.lemmas.List.{get_or-set_other, get_or-set_same, length-set}
use Rattle.std.proofs.lemmas.List.Edits.{length-insert, get_or-insert_below}
use Rattle.ks_base.specs.Tables.{AreAbove, IsAscending, Among, has_key, drop_row}
use Rattle.ks_base.specs.Places.{IsGapAt}
use Rattle.ks_index.specs.Indexes.{AreCovered, IsIndex, IsIndexBut, IsPartIndex}
use Rattle.ks_base.proofs.AmongLemmas.{all_among, among_all, among_push}
use Rattle.ks_base.proofs.LinkLemmas.{none_left}
use Rattle.ks_base.proofs.PlaceLemmas.{above_at, ascending_insert}
use Rattle.ks_base.proofs.RowLemmas.{eq_is, same_row, among_drop, filter_among}
use Rattle.ks_base.proofs.TableLemmas.{ascending_drop}

-- places

pub get_any : {X : Type 0} (xs : List X) (i : ℕ) (d e : X) → i < length xs → get_or xs i d ≡ get_or xs i e
get_any [] i d e lt = absurd (omega arith)
get_any (x ∷ xs) zero d e lt = refl
get_any (x ∷ xs) (suc i) d e lt = get_any xs i d e (omega arith)

pub below_or_not : (a b : ℕ) → (a < b) ⊎ (b ≤ a)
below_or_not a zero = inr (omega arith)
below_or_not zero (suc b) = inl (omega arith)
below_or_not (suc a) (suc b) = by (below_or_not a b)
  where
    by : (a < b) ⊎ (b ≤ a) → (suc a < suc b) ⊎ (suc b ≤ suc a)
    by (inl lt) = inl (omega arith)
    by (inr le) = inr (omega arith)

-- keys that are the same at each

above_alike : {K X : Type 0} (cmp : K → K → Ordering) (f g : X → K) (low : K) (xs : List X) →
    ((x : X) → Among xs x → f x ≡ g x) → AreAbove cmp f low xs → AreAbove cmp g low xs
above_alike cmp f g low [] alike above = tt
above_alike cmp f g low (x ∷ xs) alike above =
    (ap (cmp low) (sym (alike x (inl refl))) ∙ above.0, above_alike cmp f g low xs (λ y among. alike y (inr among)) above.1)

pub ascending_alike : {K X : Type 0} (cmp : K → K → Ordering) (f g : X → K) (xs : List X) →
    ((x : X) → Among xs x → f x ≡ g x) → IsAscending cmp f xs → IsAscending cmp g xs
ascending_alike cmp f g [] alike up = tt
ascending_alike cmp f g (x ∷ xs) alike up = (
  subst (λ (k : _). AreAbove cmp g k xs) (alike x (inl refl)) (above_alike cmp f g (f x) xs (λ y among. alike y (inr among)) up.0),
  ascending_alike cmp f g xs (λ y among. alike y (inr among)) up.1,
)

above_mapped : {K X Y : Type 0} (cmp : K → K → Ordering) (key : Y → K) (f : X → Y) (low : K) (xs : List X) →
    AreAbove cmp (λ x. key (f x)) low xs → AreAbove cmp key low (map f xs)
above_mapped cmp key f low [] above = tt
above_mapped cmp key f low (x ∷ xs) above = (above.0, above_mapped cmp key f low xs above.1)

pub ascending_mapped : {K X Y : Type 0} (cmp : K → K → Ordering) (key : Y → K) (f : X → Y) (xs : List X) →
    IsAscending cmp (λ x. key (f x)) xs → IsAscending cmp key (map f xs)
ascending_mapped cmp key f [] up = tt
ascending_mapped cmp key f (x ∷ xs) up = (above_mapped cmp key f (key (f x)) xs up.0, ascending_mapped cmp key f xs up.1)

-- it is all one which row stands for a place outside
pub index_any : {K X : Type 0} (cmp : K → K → Ordering) (key : X → K) (rows : List X) (places : List ℕ) (e d : X) →
    AllByRecursion (λ place. place < length rows) places → IsAscending cmp (λ place. key (get_or rows place e)) places →
    IsAscending cmp (λ place. key (get_or rows place d)) places
index_any cmp key rows places e d within up =
    ascending_alike cmp (λ place. key (get_or rows place e)) (λ place. key (get_or rows place d)) places
    (λ p among. ap key (get_any rows p e d (all_among (λ q. q < length rows) places p within among))) up

-- a row comes in behind all others

pub get_pushed : {X : Type 0} (rows : List X) (row d : X) (p : ℕ) → p < length rows → get_or (insert rows (length rows) row) p d ≡ get_or rows p d
get_pushed rows row d p lt = get_or-insert_below rows (length rows) row d p lt (omega arith)

pub pushed_index : {K X : Type 0} (cmp : K → K → Ordering) (key : X → K) (rows : List X) (places : List ℕ) (row : X) →
    IsIndex cmp key rows places → IsIndexBut cmp key (insert rows (length rows) row) places (length rows)
pushed_index {K} {X} cmp key rows places row index = record {
  within = among_all (λ p. p < length (insert rows (length rows) row)) places (λ p among. omega (arith, inside p among, longer));
  others = λ p among is. omega (arith, inside p among, is);
  all = λ p lt other. index.all p (omega (arith, lt, longer, other));
  up = λ d. ascending_alike cmp (λ p. key (get_or rows p d)) (λ p. key (get_or (insert rows (length rows) row) p d)) places
      (λ p among. ap key (sym (get_pushed rows row d p (inside p among)))) (index.up d);
}
  where
    longer : length (insert rows (length rows) row) ≡ length rows + 1
    longer = length-insert rows (length rows) row (omega arith)

    inside : (p : ℕ) → Among places p → p < length rows
    inside p among = all_among (λ q. q < length rows) places p index.within among

-- a row takes the place of another

pub set_index : {K X : Type 0} (cmp : K → K → Ordering) (key : X → K) (rows : List X) (places : List ℕ) (at : ℕ) (row : X) →
    IsIndexBut cmp key rows places at → IsIndexBut cmp key (set rows at row) places at
set_index {K} {X} cmp key rows places at row but = record {
  within = among_all (λ p. p < length (set rows at row)) places
      (λ p among. omega (arith, length-set rows at row, all_among (λ q. q < length rows) places p but.within among));
  others = but.others;
  all = λ p lt other. but.all p (omega (arith, length-set rows at row)) other;
  up = λ d. ascending_alike cmp (λ p. key (get_or rows p d)) (λ p. key (get_or (set rows at row) p d)) places
      (λ p among. ap key (sym (get_or-set_other rows at p row d (but.others p among)))) (but.up d);
}

-- one with its key
pub set_alike : {K X : Type 0} (cmp : K → K → Ordering) (key : X → K) (rows : List X) (places : List ℕ) (at : ℕ) (row : X) →
    at < length rows → key (get_or rows at row) ≡ key row → IsIndex cmp key rows places → IsIndex cmp key (set rows at row) places
set_alike {K} {X} cmp key rows places at row lt same index = record {
  within = among_all (λ p. p < length (set rows at row)) places (λ p among. omega (arith, length-set rows at row, inside p among));
  all = λ p less. index.all p (omega (arith, length-set rows at row));
  up = λ d. ascending_alike cmp (λ p. key (get_or rows p d)) (λ p. key (get_or (set rows at row) p d)) places
      (λ p among. by d p (inside p among) (below_or_not p at) (below_or_not at p)) (index.up d);
}
  where
    inside : (p : ℕ) → Among places p → p < length rows
    inside p among = all_among (λ q. q < length rows) places p index.within among

    by : (d : X) (p : ℕ) → p < length rows → (p < at) ⊎ (at ≤ p) → (at < p) ⊎ (p ≤ at) → key (get_or rows p d) ≡ key (get_or (set rows at row) p d)
    by d p less (inl below) any = ap key (sym (get_or-set_other rows at p row d (λ is. omega (arith, is))))
    by d p less (inr least) (inl above) = ap key (sym (get_or-set_other rows at p row d (λ is. omega (arith, is))))
    by d p less (inr least) (inr most) =
        let is : at ≡ p = omega (arith, least, most) in
        let there : get_or (set rows at row) p d ≡ row = ap (λ q. get_or (set rows at row) q d) (sym is) ∙ get_or-set_same rows at row d lt in
        let here : key (get_or rows p d) ≡ key row = ap key (get_any rows p d row less) ∙ ap (λ q. key (get_or rows q row)) (sym is) ∙ same in
        here ∙ ap key (sym there)

-- a place goes out of the index, and one comes in

pub out_index : {K X : Type 0} (cmp : K → K → Ordering) (key : X → K) → IsTotalOrder cmp → ((a b : K) → cmp a b ≡ Equal → a ≡ b) →
    (rows : List X) (places : List ℕ) (at : ℕ) (e : X) → at < length rows → IsIndex cmp key rows places →
    IsIndexBut cmp key rows (drop_row cmp (λ p. key (get_or rows p e)) (key (get_or rows at e)) places) at
unfolding drop_row
out_index {K} {X} cmp key o exact rows places at e lt index = record {
  within = among_all (λ p. p < length rows) rest (λ p among. all_among (λ q. q < length rows) places p index.within (among_drop cmp there k places p among).0);
  others = λ p among is. gone p is (among_drop cmp there k places p among).1;
  all = λ p below other. filter_among (λ p. not (has_key cmp there k p)) places p (index.all p below) (stays p (index.all p below) other (has_key cmp there k p) refl);
  up = λ d. ascending_drop_any d;
}
  where
    there : ℕ → K
    there p = key (get_or rows p e)

    k : K
    k = key (get_or rows at e)

    rest : List ℕ
    rest = filter (λ p. not (has_key cmp there k p)) places

    gone : (p : ℕ) → p ≡ at → not (has_key cmp there k p) ≡ true → ⊥
    gone p is kept =
        let same : cmp (there p) k ≡ Equal = subst (λ q. cmp (there q) k ≡ Equal) (sym is) (tied_itself o k) in
        let out : not (is_eq (cmp (there p) k)) ≡ false = ap (λ c. not (is_eq c)) same in
        cc

    stays : (p : ℕ) → Among places p → p ≢ at → (b : Bool) → has_key cmp there k p ≡ b → not b ≡ true
    stays p among other false is = refl
    stays p among other true is =
        absurd (other (same_row cmp there o places p at (index.up e) among (index.all at lt) (exact (there p) k (eq_is (cmp (there p) k) is))))

    ascending_drop_any : (d : X) → IsAscending cmp (λ p. key (get_or rows p d)) rest
    ascending_drop_any d =
        index_any cmp key rows rest e d
        (among_all (λ p. p < length rows) rest (λ p among. all_among (λ q. q < length rows) places p index.within (among_drop cmp there k places p among).0))
        (ascending_drop cmp there k places (index.up e))

among_insert : {X : Type 0} (xs : List X) (i : ℕ) (y x : X) → Among xs x → Among (insert xs i y) x
among_insert [] i y x among = absurd among
among_insert (next ∷ xs) zero y x among = inr among
among_insert (next ∷ xs) (suc i) y x (inl is) = inl is
among_insert (next ∷ xs) (suc i) y x (inr among) = inr (among_insert xs i y x among)

insert_among : {X : Type 0} (xs : List X) (i : ℕ) (y : X) → Among (insert xs i y) y
insert_among [] zero y = inl refl
insert_among [] (suc i) y = inl refl
insert_among (next ∷ xs) zero y = inl refl
insert_among (next ∷ xs) (suc i) y = inr (insert_among xs i y)

all_insert : {X : Type 0} (P : X → Type 0) (xs : List X) (i : ℕ) (y : X) → P y → AllByRecursion P xs → AllByRecursion P (insert xs i y)
all_insert P [] zero y is all = (is, tt)
all_insert P [] (suc i) y is all = (is, tt)
all_insert P (next ∷ xs) zero y is all = (is, all)
all_insert P (next ∷ xs) (suc i) y is all = (all.0, all_insert P xs i y is all.1)

pub in_index : {K X : Type 0} (cmp : K → K → Ordering) (key : X → K) → IsTotalOrder cmp → (rows : List X) (places : List ℕ) (at slot : ℕ) (e : X) →
    at < length rows → IsIndexBut cmp key rows places at → IsGapAt cmp (λ p. key (get_or rows p e)) (key (get_or rows at e)) places slot →
    IsIndex cmp key rows (insert places slot at)
in_index {K} {X} cmp key o rows places at slot e lt but gap = record {
  within = inside;
  all = λ p below. by p below (below_or_not p at) (below_or_not at p);
  up = λ d. index_any cmp key rows (insert places slot at) e d inside
      (ascending_insert cmp (λ p. key (get_or rows p e)) o at places slot (but.up e) gap);
}
  where
    inside : AllByRecursion (λ p. p < length rows) (insert places slot at)
    inside = all_insert (λ p. p < length rows) places slot at lt but.within

    by : (p : ℕ) → p < length rows → (p < at) ⊎ (at ≤ p) → (at < p) ⊎ (p ≤ at) → Among (insert places slot at) p
    by p below (inl less) any = among_insert places slot at p (but.all p below (λ is. omega arith))
    by p below (inr ge) (inl more) = among_insert places slot at p (but.all p below (λ is. omega arith))
    by p below (inr ge) (inr le) = let is : at ≡ p = omega arith in subst (Among (insert places slot at)) is (insert_among places slot at)

-- a place goes in

pub part_put : {K X : Type 0} (cmp : K → K → Ordering) (key : X → K) → IsTotalOrder cmp → (rows : List X) (places : List ℕ) (at slot : ℕ) (e : X) →
    at < length rows → IsPartIndex cmp key rows places → IsGapAt cmp (λ p. key (get_or rows p e)) (key (get_or rows at e)) places slot →
    IsPartIndex cmp key rows (insert places slot at)
part_put cmp key o rows places at slot e lt part gap =
    let inside = all_insert (λ p. p < length rows) places slot at lt part.within in
    record {
      within = inside;
      up = λ d. index_any cmp key rows (insert places slot at) e d inside (ascending_insert cmp (λ p. key (get_or rows p e)) o at places slot (part.up e) gap);
    }

pub still_in : (places : List ℕ) (slot at p : ℕ) → Among places p → Among (insert places slot at) p
still_in places slot at p among = among_insert places slot at p among

pub now_in : (places : List ℕ) (slot at : ℕ) → Among (insert places slot at) at
now_in places slot at = insert_among places slot at

pub all_in : {K X : Type 0} (cmp : K → K → Ordering) (key : X → K) (rows : List X) (places left : List ℕ) → length left ≡ 0 → IsPartIndex cmp key rows places →
    AreCovered rows places left → IsIndex cmp key rows places
all_in {K} {X} cmp key rows places left none part covered = record { within = part.within; all = λ p below. by p (covered p below); up = part.up }
  where
    by : (p : ℕ) → Among places p ⊎ Among left p → Among places p
    by p (inl among) = among
    by p (inr among) = absurd (none_left left p none among)

pub covered_more : {X : Type 0} (rows : List X) (places more left rest : List ℕ) (at : ℕ) → left ≡ rest ++ at ∷ [] → ((p : ℕ) → Among places p → Among more p) → Among more at →
    AreCovered rows places left → AreCovered rows more rest
covered_more {X} rows places more left rest at is stays stands covered p below = by (covered p below)
  where
    last : Among rest p ⊎ (at ≡ p) → Among more p ⊎ Among rest p
    last (inl among) = inr among
    last (inr same) = inl (subst (Among more) same stands)

    by : Among places p ⊎ Among left p → Among more p ⊎ Among rest p
    by (inl among) = inl (stays p among)
    by (inr among) = last (among_push rest at p (subst (λ (l : List ℕ). Among l p) is among))

-- rows with one key are one

pub same_place : {K X : Type 0} (cmp : K → K → Ordering) (key : X → K) → IsTotalOrder cmp → (rows : List X) (p q : ℕ) (d : X) →
    IsAscending cmp key rows → p < length rows → q < length rows → cmp (key (get_or rows p d)) (key (get_or rows q d)) ≡ Equal → p ≡ q
same_place cmp key o [] p q d up first second same = absurd (omega arith)
same_place cmp key o (row ∷ rows) zero zero d up first second same = refl
same_place cmp key o (row ∷ rows) zero (suc q) d up first second same =
    let above = above_at cmp key (key row) rows q d up.0 (omega arith) in cc
same_place cmp key o (row ∷ rows) (suc p) zero d up first second same =
    let above = above_at cmp key (key row) rows p d up.0 (omega arith) in
    let back = tied_back o (key (get_or rows p d)) (key row) same in
    cc
same_place cmp key o (row ∷ rows) (suc p) (suc q) d up first second same =
    ap suc (same_place cmp key o rows p q d up.1 (omega arith) (omega arith) same)
