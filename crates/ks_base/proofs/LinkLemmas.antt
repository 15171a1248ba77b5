-- Changes that keep rows and their sides the same.
use Rattle.std.proofs.Common.{◌≡◌, ◌⊎◌, inl, inr, Bool, true, false, not, List, [], ◌∷◌, ◌++◌, fold, map, is_some, length, refl, sym, ap, subst, ◌∙◌, arith}
use Rattle.std.specs.Prelude.{◌↔◌}
use Rattle.std.specs.declared.cmp.Ordering.{Ordering}
use Rattle.std.specs.declared.cmp.Ordering.TheVariants.{Less, Equal, Greater}
use Rattle.std.specs.Cmp.{IsTotalOrder}
use Rattle.std.specs.List.{filter}
use Rattle.std.specs.List.Sorted.{IsPermutation}
use Rattle.std.specs.Ordering.{is_eq}
use Rattle.std.proofs.lemmas.Cmp.{tied_itself}
use Rattle.std.proofs.lemmas.List.Elements.{All-from_recursion, recursion_from_All}
use Rattle.std.proofs.lemmas.List.Sorted.{All-permutation, IsPermutation-sym}
use Rattle.ks_base.specs.Links.{AreLinked}
use Rattle.ks_base.specs.Tables.{Among, IsAscending, drop_row, find_row, has_key, put_row}
use Rattle.ks_base.proofs.AmongLemmas.{all_among, among_all, among_left, among_mapped, among_push, among_right, map_among}
use Rattle.ks_base.proofs.RowLemmas.{above_among, among_drop, among_filter, among_found, among_put, among_put_other, eq_is, filter_among, put_among}
use Rattle.ks_base.proofs.TableLemmas.{ascending_filter, ascending_part}
use Rattle.ks_base.proofs.TruthLemmas.{not_both, not_if}

-- what stood beside a row that is put stands on

abbrev pub IsExact : {X : Type 0} → (X → X → Ordering) → Type 0
IsExact {X} cmp = (a b : X) → cmp a b ≡ Equal → a ≡ b

kept_by : {X : Type 0} (cmp : X → X → Ordering) → IsExact cmp → (row x : X) (rows : List X) (o : Ordering) → cmp x row ≡ o → Among rows x →
    Among (put_row cmp (λ r. r) row rows) x
kept_by cmp exact row x rows Less is among = among_put_other cmp (λ r. r) row rows x (ap is_eq is) among
kept_by cmp exact row x rows Equal is among = subst (Among (put_row cmp (λ r. r) row rows)) (sym (exact x row is)) (put_among cmp (λ r. r) row rows)
kept_by cmp exact row x rows Greater is among = among_put_other cmp (λ r. r) row rows x (ap is_eq is) among

pub kept_beside : {X : Type 0} (cmp : X → X → Ordering) → IsExact cmp → (row : X) (rows : List X) (x : X) → Among rows x → Among (put_row cmp (λ r. r) row rows) x
kept_beside cmp exact row rows x = kept_by cmp exact row x rows (cmp x row) refl

drop_among : {X : Type 0} (cmp : X → X → Ordering) (k : X) (rows : List X) (x : X) → Among rows x → not (has_key cmp (λ r. r) k x) ≡ true → Among (drop_row cmp (λ r. r) k rows) x
unfolding drop_row
drop_among cmp k rows x among other = filter_among (λ row. not (has_key cmp (λ r. r) k row)) rows x among other

pub other_by : (o : Ordering) → (o ≡ Equal → ⊥) → not (is_eq o) ≡ true
other_by Less other = refl
other_by Equal other = absurd (other refl)
other_by Greater other = refl

pub tied_not : (o : Ordering) → o ≡ Equal → not (is_eq o) ≡ true → ⊥
tied_not Less is other = cc
tied_not Equal is other = cc
tied_not Greater is other = cc

-- a row that is not the one that goes
abbrev AreOther : {X : Type 0} → (X → X → Ordering) → X → X → Type 0
AreOther cmp k x = not (has_key cmp (λ r. r) k x) ≡ true

other_row : {X : Type 0} (cmp : X → X → Ordering) → IsExact cmp → (k x : X) → (x ≡ k → ⊥) → AreOther cmp k x
other_row cmp exact k x other = other_by (cmp x k) (λ is. other (exact x k is))

not_itself : {X : Type 0} (cmp : X → X → Ordering) → IsTotalOrder cmp → (k x : X) → AreOther cmp k x → x ≡ k → ⊥
not_itself cmp o k x other is = tied_not (cmp x k) (ap (λ y. cmp y k) is ∙ tied_itself o k) other

-- the changes

pub linked_is : {A B : Type 0} (seen : A → B) (rows more : List A) (sides others : List B) → more ≡ rows → others ≡ sides → AreLinked seen rows sides → AreLinked seen more others
linked_is seen rows more sides others is also linked = subst (λ l. AreLinked seen l others) (sym is) (subst (AreLinked seen rows) (sym also) linked)

pub linked_put : {A B : Type 0} (less : A → A → Ordering) (across : B → B → Ordering) (seen : A → B) (row_of : B → A) → IsExact less → IsExact across →
    ((a : A) → row_of (seen a) ≡ a) → (row : A) (rows : List A) (sides : List B) → AreLinked seen rows sides →
    AreLinked seen (put_row less (λ r. r) row rows) (put_row across (λ r. r) (seen row) sides)
linked_put {A} {B} less across seen row_of exact exactly returns row rows sides linked = record { forth = forth; back = back }
  where
    same : (x : A) → seen row ≡ seen x → row ≡ x
    same x is = sym (returns row) ∙ ap row_of is ∙ returns x

    onto : (x : A) → (row ≡ x) ⊎ Among rows x → Among (put_row across (λ r. r) (seen row) sides) (seen x)
    onto x (inl is) = subst (λ y. Among (put_row across (λ r. r) (seen row) sides) (seen y)) is (put_among across (λ r. r) (seen row) sides)
    onto x (inr among) = kept_beside across exactly (seen row) sides (seen x) (linked.forth x among)

    from : (x : A) → (seen row ≡ seen x) ⊎ Among sides (seen x) → Among (put_row less (λ r. r) row rows) x
    from x (inl is) = subst (Among (put_row less (λ r. r) row rows)) (same x is) (put_among less (λ r. r) row rows)
    from x (inr among) = kept_beside less exact row rows x (linked.back x among)

    forth : (x : A) → Among (put_row less (λ r. r) row rows) x → Among (put_row across (λ r. r) (seen row) sides) (seen x)
    forth x among = onto x (among_put less (λ r. r) row rows x among)

    back : (x : A) → Among (put_row across (λ r. r) (seen row) sides) (seen x) → Among (put_row less (λ r. r) row rows) x
    back x among = from x (among_put across (λ r. r) (seen row) sides (seen x) among)

pub linked_drop : {A B : Type 0} (less : A → A → Ordering) (across : B → B → Ordering) (seen : A → B) (row_of : B → A) → IsExact less → IsExact across →
    IsTotalOrder less → IsTotalOrder across → ((a : A) → row_of (seen a) ≡ a) → (row : A) (rows : List A) (sides : List B) → AreLinked seen rows sides →
    AreLinked seen (drop_row less (λ r. r) row rows) (drop_row across (λ r. r) (seen row) sides)
linked_drop {A} {B} less across seen row_of exact exactly o p returns row rows sides linked = record { forth = forth; back = back }
  where
    same : (x : A) → seen x ≡ seen row → x ≡ row
    same x is = sym (returns x) ∙ ap row_of is ∙ returns row

    forth : (x : A) → Among (drop_row less (λ r. r) row rows) x → Among (drop_row across (λ r. r) (seen row) sides) (seen x)
    forth x among =
        let both = among_drop less (λ r. r) row rows x among in
        drop_among across (seen row) sides (seen x) (linked.forth x both.0) (other_row across exactly (seen row) (seen x) (λ is. not_itself less o row x both.1 (same x is)))

    back : (x : A) → Among (drop_row across (λ r. r) (seen row) sides) (seen x) → Among (drop_row less (λ r. r) row rows) x
    back x among =
        let both = among_drop across (λ r. r) (seen row) sides (seen x) among in
        drop_among less row rows x (linked.back x both.0) (other_row less exact row x (λ is. not_itself across p (seen row) (seen x) both.1 (ap seen is)))

pub linked_filter : {A B : Type 0} (seen : A → B) (row_of : B → A) → ((a : A) → row_of (seen a) ≡ a) → (test : A → Bool) (rows : List A) (sides : List B) →
    AreLinked seen rows sides → AreLinked seen (filter test rows) (filter (λ side. test (row_of side)) sides)
linked_filter {A} {B} seen row_of returns test rows sides linked = record { forth = forth; back = back }
  where
    forth : (x : A) → Among (filter test rows) x → Among (filter (λ side. test (row_of side)) sides) (seen x)
    forth x among =
        let both = among_filter test rows x among in
        filter_among (λ side. test (row_of side)) sides (seen x) (linked.forth x both.0) (ap test (returns x) ∙ both.1)

    back : (x : A) → Among (filter (λ side. test (row_of side)) sides) (seen x) → Among (filter test rows) x
    back x among =
        let both = among_filter (λ side. test (row_of side)) sides (seen x) among in
        filter_among test rows x (linked.back x both.0) (sym (ap test (returns x)) ∙ both.1)

-- the sides of rows that go, taken out one by one

abbrev pub without_sides : {A B : Type 0} → (B → B → Ordering) → (A → B) → List B → List A → List B
without_sides across seen sides gone = fold (λ left row. drop_row across (λ r. r) (seen row) left) sides gone

stands_beside : {A B : Type 0} (across : B → B → Ordering) (seen : A → B) → IsTotalOrder across → (next : A) (gone : List A) (sides : List B) (x : B) →
    Among (drop_row across (λ r. r) (seen next) sides) x → ((row : A) → Among gone row → seen row ≡ x → ⊥) → Among sides x × ((row : A) → Among (next ∷ gone) row → seen row ≡ x → ⊥)
stands_beside {A} across seen p next gone sides x among none = ((among_drop across (λ r. r) (seen next) sides x among).0, other)
  where
    other : (row : A) → (next ≡ row) ⊎ Among gone row → seen row ≡ x → ⊥
    other row (inl is) also = not_itself across p (seen next) x (among_drop across (λ r. r) (seen next) sides x among).1 (sym (ap seen is ∙ also))
    other row (inr later) also = none row later also

pub stands_without : {A B : Type 0} (across : B → B → Ordering) (seen : A → B) → IsTotalOrder across → (gone : List A) (sides : List B) (x : B) →
    Among (without_sides across seen sides gone) x → Among sides x × ((row : A) → Among gone row → seen row ≡ x → ⊥)
stands_without across seen p [] sides x among = (among, λ row none is. none)
stands_without across seen p (next ∷ gone) sides x among =
    let rest = stands_without across seen p gone (drop_row across (λ r. r) (seen next) sides) x among in
    stands_beside across seen p next gone sides x rest.0 rest.1

pub without_stands : {A B : Type 0} (across : B → B → Ordering) (seen : A → B) → IsExact across → (gone : List A) (sides : List B) (x : B) → Among sides x →
    ((row : A) → Among gone row → seen row ≡ x → ⊥) → Among (without_sides across seen sides gone) x
without_stands across seen exactly [] sides x among other = among
without_stands across seen exactly (next ∷ gone) sides x among other =
    without_stands across seen exactly gone (drop_row across (λ r. r) (seen next) sides) x
    (drop_among across (seen next) sides x among (other_row across exactly (seen next) x (λ is. other next (inl refl) (sym is)))) (λ row later. other row (inr later))

pub linked_without : {A B : Type 0} (across : B → B → Ordering) (seen : A → B) (row_of : B → A) → IsExact across → IsTotalOrder across → ((a : A) → row_of (seen a) ≡ a) →
    (test : A → Bool) (rows : List A) (sides : List B) → AreLinked seen rows sides →
    AreLinked seen (filter (λ row. not (test row)) rows) (without_sides across seen sides (filter test rows))
linked_without {A} {B} across seen row_of exactly p returns test rows sides linked = record { forth = forth; back = back }
  where
    gone : (x row : A) → not (test x) ≡ true → Among (filter test rows) row → seen row ≡ seen x → ⊥
    gone x row other among is =
        let same : row ≡ x = sym (returns row) ∙ ap row_of is ∙ returns x in
        let both = among_filter test rows row among in
        not_both (test x) other (sym (ap test same) ∙ both.1)

    forth : (x : A) → Among (filter (λ row. not (test row)) rows) x → Among (without_sides across seen sides (filter test rows)) (seen x)
    forth x among =
        let both = among_filter (λ row. not (test row)) rows x among in
        without_stands across seen exactly (filter test rows) sides (seen x) (linked.forth x both.0) (λ row. gone x row both.1)

    back : (x : A) → Among (without_sides across seen sides (filter test rows)) (seen x) → Among (filter (λ row. not (test row)) rows) x
    back x among =
        let both = stands_without across seen p (filter test rows) sides (seen x) among in
        let stands = linked.back x both.0 in
        filter_among (λ row. not (test row)) rows x stands (not_if (test x) (λ is. both.1 x (filter_among test rows x stands is) refl))

-- the side of a new row that found no room comes out again
pub linked_undone : {A B : Type 0} (less : A → A → Ordering) (across : B → B → Ordering) (seen : A → B) (row_of : B → A) → IsExact across →
    IsTotalOrder less → IsTotalOrder across → ((a : A) → row_of (seen a) ≡ a) → (row : A) (rows : List A) (sides : List B) → IsAscending less (λ r. r) rows →
    is_some (find_row less (λ r. r) row rows) ≡ false → AreLinked seen rows sides →
    AreLinked seen rows (drop_row across (λ r. r) (seen row) (put_row across (λ r. r) (seen row) sides))
linked_undone {A} {B} less across seen row_of exactly o p returns row rows sides up new linked = record { forth = forth; back = back }
  where
    none : Among rows row → ⊥
    none among = let found = ap is_some (among_found less (λ r. r) o rows row up among) in let stands = sym new ∙ found in cc

    same : (x : A) → seen x ≡ seen row → x ≡ row
    same x is = sym (returns x) ∙ ap row_of is ∙ returns row

    forth : (x : A) → Among rows x → Among (drop_row across (λ r. r) (seen row) (put_row across (λ r. r) (seen row) sides)) (seen x)
    forth x among =
        drop_among across (seen row) (put_row across (λ r. r) (seen row) sides) (seen x) (kept_beside across exactly (seen row) sides (seen x) (linked.forth x among))
        (other_row across exactly (seen row) (seen x) (λ is. none (subst (Among rows) (same x is) among)))

    from : (x : A) → AreOther across (seen row) (seen x) → (seen row ≡ seen x) ⊎ Among sides (seen x) → Among rows x
    from x other (inl is) = absurd (not_itself across p (seen row) (seen x) other (sym is))
    from x other (inr among) = linked.back x among

    back : (x : A) → Among (drop_row across (λ r. r) (seen row) (put_row across (λ r. r) (seen row) sides)) (seen x) → Among rows x
    back x among =
        let both = among_drop across (λ r. r) (seen row) (put_row across (λ r. r) (seen row) sides) (seen x) among in
        from x both.1 (among_put across (λ r. r) (seen row) sides (seen x) both.0)

-- rows that are put in any order

pub among_moved : {X : Type 0} (xs ys : List X) (x : X) → IsPermutation xs ys → Among ys x → Among xs x
among_moved xs ys x moved among =
    all_among (Among xs) ys x
    (recursion_from_All (Among xs) ys (All-permutation (Among xs) xs ys moved (All-from_recursion (Among xs) xs (among_all (Among xs) xs (λ y stands. stands))))) among

pub linked_sorted : {A B : Type 0} (seen : A → B) (row_of : B → A) → ((a : A) → row_of (seen a) ≡ a) → (rows : List A) (sorted : List B) → IsPermutation (map seen rows) sorted →
    AreLinked seen rows sorted
linked_sorted {A} {B} seen row_of returns rows sorted moved = record {
  forth = λ x among. among_moved sorted (map seen rows) (seen x) (IsPermutation-sym (map seen rows) sorted moved) (map_among seen rows x among);
  back = λ x among. from x (among_mapped seen rows (seen x) (among_moved (map seen rows) sorted (seen x) moved among));
}
  where
    from : (x : A) → (row : A) × Among rows row × (seen row ≡ seen x) → Among rows x
    from x (row, among, is) = subst (Among rows) (sym (returns row) ∙ ap row_of is ∙ returns x) among

-- two ascending lists with the same rows are one

-- the first of one is the first of the other
same_first : {X : Type 0} (cmp : X → X → Ordering) → IsTotalOrder cmp → (x y : X) (xs ys : List X) → IsAscending cmp (λ r. r) (x ∷ xs) → IsAscending cmp (λ r. r) (y ∷ ys) →
    Among (y ∷ ys) x → Among (x ∷ xs) y → x ≡ y
same_first cmp o x y xs ys up also (inl is) other = sym is
same_first cmp o x y xs ys up also (inr among) (inl is) = is
same_first cmp o x y xs ys up also (inr among) (inr later) =
    let less = o.trans x y x (above_among cmp (λ r. r) x xs y up.0 later) (above_among cmp (λ r. r) y ys x also.0 among) in
    let tied = tied_itself o x in
    cc

same_behind : {X : Type 0} (cmp : X → X → Ordering) → IsTotalOrder cmp → (x y : X) (xs ys : List X) → x ≡ y → IsAscending cmp (λ r. r) (x ∷ xs) →
    ((z : X) → Among (x ∷ xs) z → Among (y ∷ ys) z) → (z : X) → Among xs z → Among ys z
same_behind {X} cmp o x y xs ys first up alike z among = by (alike z (inr among))
  where
    by : (y ≡ z) ⊎ Among ys z → Among ys z
    by (inl is) =
        let less = above_among cmp (λ r. r) x xs z up.0 among in
        let tied = ap (cmp x) (sym (first ∙ is)) ∙ tied_itself o x in
        cc
    by (inr later) = later

pub ascending_same : {X : Type 0} (cmp : X → X → Ordering) → IsTotalOrder cmp → (xs ys : List X) → IsAscending cmp (λ r. r) xs → IsAscending cmp (λ r. r) ys →
    ((x : X) → Among xs x → Among ys x) → ((x : X) → Among ys x → Among xs x) → xs ≡ ys
ascending_same cmp o [] [] up also alike back = refl
ascending_same cmp o [] (y ∷ ys) up also alike back = absurd (back y (inl refl))
ascending_same cmp o (x ∷ xs) [] up also alike back = absurd (alike x (inl refl))
ascending_same cmp o (x ∷ xs) (y ∷ ys) up also alike back =
    let first : x ≡ y = same_first cmp o x y xs ys up also (alike x (inl refl)) (back y (inl refl)) in
    let rest : xs ≡ ys = ascending_same cmp o xs ys up.1 also.1 (same_behind cmp o x y xs ys first up alike) (same_behind cmp o y x ys xs (sym first) also back) in
    cc

-- a run of sides shows its rows in the order of the rows
pub run_linked : {A B : Type 0} (less : A → A → Ordering) (across : B → B → Ordering) (seen : A → B) (row_of : B → A) (side : B → Ordering) → IsTotalOrder less →
    ((a : A) → row_of (seen a) ≡ a) → ((b : B) → seen (row_of b) ≡ b) →
    ((a b : B) → side a ≡ Equal → side b ≡ Equal → across a b ≡ Less → less (row_of a) (row_of b) ≡ Less) →
    (rows : List A) (sides : List B) → IsAscending less (λ r. r) rows → IsAscending across (λ r. r) sides → AreLinked seen rows sides →
    map row_of (filter (λ b. is_eq (side b)) sides) ≡ filter (λ a. is_eq (side (seen a))) rows
run_linked {A} {B} less across seen row_of side o returns again within rows sides up also linked =
    ascending_same less o (map row_of (filter (λ b. is_eq (side b)) sides)) (filter (λ a. is_eq (side (seen a))) rows)
    (ascending_part across (λ r. r) less row_of (λ b. is_eq (side b)) sides (λ a b is equal. within a b (eq_is (side a) is) (eq_is (side b) equal)) also)
    (ascending_filter less (λ r. r) (λ a. is_eq (side (seen a))) rows up) forth back
  where
    forth : (a : A) → Among (map row_of (filter (λ b. is_eq (side b)) sides)) a → Among (filter (λ a. is_eq (side (seen a))) rows) a
    forth a among =
        let one = among_mapped row_of (filter (λ b. is_eq (side b)) sides) a among in
        let both = among_filter (λ b. is_eq (side b)) sides one.0 one.1 in
        let there : one.0 ≡ seen a = sym (again one.0) ∙ ap seen one.2 in
        filter_among (λ a. is_eq (side (seen a))) rows a (linked.back a (subst (Among sides) there both.0)) (sym (ap (λ b. is_eq (side b)) there) ∙ both.1)

    back : (a : A) → Among (filter (λ a. is_eq (side (seen a))) rows) a → Among (map row_of (filter (λ b. is_eq (side b)) sides)) a
    back a among =
        let both = among_filter (λ a. is_eq (side (seen a))) rows a among in
        subst (Among (map row_of (filter (λ b. is_eq (side b)) sides))) (returns a)
        (map_among row_of (filter (λ b. is_eq (side b)) sides) (seen a) (filter_among (λ b. is_eq (side b)) sides (seen a) (linked.forth a both.0) both.1))

-- sides that go from a list into a set

abbrev pub AreParts : {X : Type 0} → List X → List X → List X → Type 0
AreParts {X} done left whole = (x : X) → (Among done x ⊎ Among left x) ↔ Among whole x

pub parts_moved : {X : Type 0} (cmp : X → X → Ordering) → IsExact cmp → (done new left rest whole : List X) (side : X) → left ≡ rest ++ side ∷ [] →
    new ≡ put_row cmp (λ r. r) side done → AreParts done left whole → AreParts new rest whole
parts_moved {X} cmp exact done new left rest whole side is put parts x = (forth, λ among. back ((parts x).1 among))
  where
    onto : (side ≡ x) ⊎ Among done x → Among whole x
    onto (inl same) = (parts x).0 (inr (subst (λ l. Among l x) (sym is) (among_right rest (side ∷ []) x (inl same))))
    onto (inr among) = (parts x).0 (inl among)

    forth : Among new x ⊎ Among rest x → Among whole x
    forth (inl among) = onto (among_put cmp (λ r. r) side done x (subst (λ l. Among l x) put among))
    forth (inr among) = (parts x).0 (inr (subst (λ l. Among l x) (sym is) (among_left rest (side ∷ []) x among)))

    last : Among rest x ⊎ (side ≡ x) → Among new x ⊎ Among rest x
    last (inl among) = inr among
    last (inr same) = inl (subst (λ l. Among l x) (sym put) (subst (Among (put_row cmp (λ r. r) side done)) same (put_among cmp (λ r. r) side done)))

    back : Among done x ⊎ Among left x → Among new x ⊎ Among rest x
    back (inl among) = inl (subst (λ l. Among l x) (sym put) (kept_beside cmp exact side done x among))
    back (inr among) = last (among_push rest side x (subst (λ l. Among l x) is among))

pub none_left : {X : Type 0} (left : List X) (x : X) → length left ≡ 0 → Among left x → ⊥
none_left [] x none among = among
none_left (next ∷ left) x none among = absurd (omega (arith, none))

pub linked_parts : {A B : Type 0} (seen : A → B) (rows : List A) (done left whole : List B) → length left ≡ 0 → AreParts done left whole → AreLinked seen rows whole → AreLinked seen rows done
linked_parts {A} {B} seen rows done left whole none parts linked = record {
  forth = λ x among. by (seen x) ((parts (seen x)).1 (linked.forth x among));
  back = λ x among. linked.back x ((parts (seen x)).0 (inl among));
}
  where
    by : (b : B) → Among done b ⊎ Among left b → Among done b
    by b (inl among) = among
    by b (inr among) = absurd (none_left left b none among)
