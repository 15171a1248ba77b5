-- The rows of ascending ids, each found by its id, are those rows whose ids are among these.
use Rattle.std.proofs.Common.{◌≡◌, ◌⊎◌, inl, inr, ℕ, zero, suc, ◌+◌, ◌<◌, ◌≤◌, Bool, true, false, cond, List, [], ◌∷◌, ◌++◌, length, map, filter, drop, get_or, append_assoc, append-nil, Some, None, refl, sym, ap, subst, ◌∙◌}
use Rattle.std.specs.Ordering.{is_eq, ordering_reverse}
use Rattle.std.specs.declared.cmp.Ordering.TheVariants.{Less}
use Rattle.std.proofs.lemmas.Bool.{or_right}
use Rattle.std.proofs.lemmas.Cmp.{nat_list_cmp_total, tied_itself}
use Rattle.std.proofs.lemmas.List.{drop_all}
use Rattle.ks_base.specs.OrderLaws.{id_exact}
use Rattle.ks_base.specs.Rows.{Id, has_id, same}
use Rattle.ks_base.specs.Tables.{Among, AreAbove, IsAscending, find_row, has_key, id_cmp}
use Rattle.ks_base.proofs.AmongLemmas.{has_id-Decides}
use Rattle.ks_base.proofs.ListLemmas.{drop_at, filter_alike}
use Rattle.ks_base.proofs.RowLemmas.{above_among, eq_is, found_among, none_among}
use Rattle.ks_base.proofs.TableLemmas.{above_lower}
use Rattle.ks_base.proofs.TruthLemmas.{equal_truths}

-- an id that is below others is none of them
none_below : (id : Id) (ids : List Id) → AreAbove id_cmp (λ other. other) id ids → has_id ids id ≡ false
none_below id ids above = equal_truths (has_id ids id) false (λ had. absurd (none ((has_id-Decides id ids).0 had))) (λ no. cc)
  where
    none : Among ids id → ⊥
    none among =
        let less = above_among id_cmp (λ other. other) id ids id above among in
        let tied = tied_itself nat_list_cmp_total id in
        cc

-- and one more id counts for its own row alone
had_other : (id other : Id) (ids : List Id) → is_eq (id_cmp other id) ≡ false → has_id (id ∷ ids) other ≡ has_id ids other
had_other id other ids differ =
    equal_truths (has_id (id ∷ ids) other) (has_id ids other) (λ had. by ((has_id-Decides other (id ∷ ids)).0 had)) (λ had. or_right (same id other) (has_id ids other) had)
  where
    by : (id ≡ other) ⊎ Among ids other → has_id ids other ≡ true
    by (inl is) =
        let tied = ap (id_cmp other) is ∙ tied_itself nat_list_cmp_total other in
        cc
    by (inr among) = (has_id-Decides other ids).1 among

had_first : (id : Id) (ids : List Id) → has_id (id ∷ ids) id ≡ true
had_first id ids = (has_id-Decides id (id ∷ ids)).1 (inl refl)

one_kept : {X : Type 0} (a b : Bool) (next row : X) (xs ys : List X) → a ≡ true → b ≡ false → xs ≡ ys → next ≡ row → cond a (next ∷ xs) xs ≡ row ∷ cond b (next ∷ ys) ys
one_kept true true next row xs ys is none rest same = cc
one_kept true false next row xs ys is none rest same = ap (λ l. next ∷ l) rest ∙ ap (λ first. first ∷ ys) same
one_kept false b next row xs ys is none rest same = cc

later_kept : {X : Type 0} (a b : Bool) (next row : X) (xs ys : List X) → a ≡ b → b ≡ false → xs ≡ row ∷ ys → cond a (next ∷ xs) xs ≡ row ∷ cond b (next ∷ ys) ys
later_kept true b next row xs ys alike none rest = cc
later_kept false true next row xs ys alike none rest = cc
later_kept false false next row xs ys alike none rest = rest

behind_first : {X : Type 0} (key : X → Id) (id : Id) (next x : X) (rows : List X) → key next ≡ id → AreAbove id_cmp key (key next) rows → Among rows x →
    is_eq (id_cmp (key x) id) ≡ false
behind_first key id next x rows here up among =
    let less : id_cmp id (key x) ≡ Less = ap (λ k. id_cmp k (key x)) (sym here) ∙ above_among id_cmp key (key next) rows x up among in
    ap is_eq (nat_list_cmp_total.antisymm (key x) id ∙ ap ordering_reverse less)

found_by : {X : Type 0} (key : X → Id) (id : Id) (ids : List Id) (next row : X) (rows : List X) (b : Bool) → has_key id_cmp key id next ≡ b →
    AreAbove id_cmp (λ other. other) id ids → AreAbove id_cmp key (key next) rows → cond b (Some next) (find_row id_cmp key id rows) ≡ Some row →
    (find_row id_cmp key id rows ≡ Some row → filter (λ x. has_id (id ∷ ids) (key x)) rows ≡ row ∷ filter (λ x. has_id ids (key x)) rows) →
    filter (λ x. has_id (id ∷ ids) (key x)) (next ∷ rows) ≡ row ∷ filter (λ x. has_id ids (key x)) (next ∷ rows)
found_by key id ids next row rows true is above up found later =
    let here : key next ≡ id = id_exact (key next) id (eq_is (id_cmp (key next) id) is) in
    let first : next ≡ row = cc in
    let rest : filter (λ x. has_id (id ∷ ids) (key x)) rows ≡ filter (λ x. has_id ids (key x)) rows =
    filter_alike (λ x. has_id (id ∷ ids) (key x)) (λ x. has_id ids (key x)) rows (λ x among. had_other id (key x) ids (behind_first key id next x rows here up among)) in
    one_kept (has_id (id ∷ ids) (key next)) (has_id ids (key next)) next row (filter (λ x. has_id (id ∷ ids) (key x)) rows) (filter (λ x. has_id ids (key x)) rows)
    (ap (has_id (id ∷ ids)) here ∙ had_first id ids) (ap (has_id ids) here ∙ none_below id ids above) rest first
found_by key id ids next row rows false is above up found later =
    let one = found_among id_cmp key id rows row found in
    let lower : id_cmp (key next) id ≡ Less = ap (id_cmp (key next)) (sym (id_exact (key row) id one.1)) ∙ above_among id_cmp key (key next) rows row up one.0 in
    later_kept (has_id (id ∷ ids) (key next)) (has_id ids (key next)) next row (filter (λ x. has_id (id ∷ ids) (key x)) rows) (filter (λ x. has_id ids (key x)) rows)
    (had_other id (key next) ids is) (none_below (key next) ids (above_lower id_cmp (λ other. other) nat_list_cmp_total (key next) id ids lower above)) (later found)

first_found : {X : Type 0} (key : X → Id) (id : Id) (ids : List Id) (row : X) (rows : List X) → AreAbove id_cmp (λ other. other) id ids → IsAscending id_cmp key rows →
    find_row id_cmp key id rows ≡ Some row → filter (λ x. has_id (id ∷ ids) (key x)) rows ≡ row ∷ filter (λ x. has_id ids (key x)) rows
unfolding find_row
first_found key id ids row [] above up found = cc
first_found key id ids row (next ∷ rows) above up found =
    found_by key id ids next row rows (has_key id_cmp key id next) refl above up.0 found (first_found key id ids row rows above up.1)

none_found : {X : Type 0} (key : X → Id) (id : Id) (ids : List Id) (rows : List X) → find_row id_cmp key id rows ≡ None →
    filter (λ x. has_id (id ∷ ids) (key x)) rows ≡ filter (λ x. has_id ids (key x)) rows
unfolding find_row
none_found key id ids rows none =
    filter_alike (λ x. has_id (id ∷ ids) (key x)) (λ x. has_id ids (key x)) rows (λ x among. had_other id (key x) ids (none_among (has_key id_cmp key id) rows x none among))

-- the ids from one place on

left_ascend : (i : ℕ) (ids : List Id) → IsAscending id_cmp (λ id. id) ids → IsAscending id_cmp (λ id. id) (drop i ids)
left_ascend zero ids up = up
left_ascend (suc i) [] up = tt
left_ascend (suc i) (id ∷ ids) up = left_ascend i ids up.1

abbrev told_from : {X Y : Type 0} → (X → Y) → (X → Id) → List X → List Id → List Y
told_from tell key rows ids = map tell (filter (λ row. has_id ids (key row)) rows)

pub told_more : {X Y : Type 0} (tell : X → Y) (key : X → Id) (ids : List Id) (i : ℕ) (id : Id) (rows : List X) (row : X) (before after whole : List Y) →
    IsAscending id_cmp (λ other. other) ids → IsAscending id_cmp key rows → i < length ids → id ≡ get_or ids i id → Some row ≡ find_row id_cmp key id rows →
    after ≡ before ++ tell row ∷ [] → before ++ told_from tell key rows (drop i ids) ≡ whole → after ++ told_from tell key rows (drop (i + 1) ids) ≡ whole
told_more tell key ids i id rows row before after whole ascend up lt is found more so_far =
    let here = drop_at ids i id lt is in
    let above = subst (IsAscending id_cmp (λ other. other)) here (left_ascend i ids ascend) in
    let first = ap (λ l. filter (λ x. has_id l (key x)) rows) here ∙ first_found key id (drop (i + 1) ids) row rows above.0 up (sym found) in
    ap (λ l. l ++ told_from tell key rows (drop (i + 1) ids)) more ∙ append_assoc before (tell row ∷ []) (told_from tell key rows (drop (i + 1) ids))
    ∙ ap (λ l. before ++ map tell l) (sym first) ∙ so_far

pub told_no_more : {X Y : Type 0} (tell : X → Y) (key : X → Id) (ids : List Id) (i : ℕ) (id : Id) (rows : List X) (before whole : List Y) →
    i < length ids → id ≡ get_or ids i id → None ≡ find_row id_cmp key id rows →
    before ++ told_from tell key rows (drop i ids) ≡ whole → before ++ told_from tell key rows (drop (i + 1) ids) ≡ whole
told_no_more tell key ids i id rows before whole lt is none so_far =
    let rest = ap (λ l. filter (λ x. has_id l (key x)) rows) (drop_at ids i id lt is) ∙ none_found key id (drop (i + 1) ids) rows (sym none) in
    ap (λ l. before ++ map tell l) (sym rest) ∙ so_far

-- no ids are left

none_wanted : {X : Type 0} (rows : List X) → filter (λ row. false) rows ≡ []
none_wanted [] = refl
none_wanted (row ∷ rows) = none_wanted rows

pub told_all : {X Y : Type 0} (tell : X → Y) (key : X → Id) (ids : List Id) (i : ℕ) (rows : List X) (told whole : List Y) → length ids ≤ i →
    told ++ told_from tell key rows (drop i ids) ≡ whole → told ≡ whole
told_all tell key ids i rows told whole end so_far =
    let none : told_from tell key rows (drop i ids) ≡ [] = ap (told_from tell key rows) (drop_all i ids end) ∙ ap (map tell) (none_wanted rows) in
    sym (append-nil told) ∙ ap (λ l. told ++ l) (sym none) ∙ so_far
