-- Lists of rows in general.
use Rattle.std.proofs.Common.{◌≡◌, ◌+◌, ◌≤◌, Bool, true, false, cond, inl, inr, List, [], ◌∷◌, ◌++◌, length, filter, refl, ap, ◌∙◌, arith}
use Rattle.std.specs.Prelude.{not}
use Rattle.std.specs.List.{AllByRecursion}
use Rattle.std.specs.declared.cmp.Ordering.{Ordering}
use Rattle.std.specs.declared.cmp.Ordering.TheVariants.{Less, Equal, Greater}
use Rattle.std.specs.Ordering.{is_eq, ordering_reverse}
use Rattle.std.specs.Cmp.{IsTotalOrder}
use Rattle.std.proofs.lemmas.Cmp.{tied_itself}
use Rattle.ks_base.specs.Tables.{Among, IsAscending, has_key, put_by, put_row}
use Rattle.ks_base.proofs.RowLemmas.{above_among, filter_among}
use Rattle.ks_base.proofs.AmongLemmas.{fewer_left}

pub push_among : {X : Type 0} (rows : List X) (last row : X) → Among rows row → Among (rows ++ last ∷ []) row
push_among [] last row among = absurd among
push_among (next ∷ rows) last row (inl same) = inl same
push_among (next ∷ rows) last row (inr later) = inr (push_among rows last row later)

pub push_last : {X : Type 0} (rows : List X) (last : X) → Among (rows ++ last ∷ []) last
push_last [] last = inl refl
push_last (next ∷ rows) last = inr (push_last rows last)

-- where all rows pass, none is left out
passing_all_by : {X : Type 0} (row : X) (rows kept : List X) (b : Bool) → b ≡ true → kept ≡ rows → cond b (row ∷ kept) kept ≡ row ∷ rows
passing_all_by row rows kept true is same = ap (λ (xs : List _). row ∷ xs) same
passing_all_by row rows kept false is same = cc

pub passing_all : {X : Type 0} (test : X → Bool) (rows : List X) → AllByRecursion (λ row. test row ≡ true) rows → filter test rows ≡ rows
passing_all test [] all = refl
passing_all test (row ∷ rows) all = passing_all_by row rows (filter test rows) (test row) all.0 (passing_all test rows all.1)

-- a stricter test is all that counts
again_by : {X : Type 0} (wide narrow : X → Bool) (row : X) (rows kept : List X) (b : Bool) → wide row ≡ b → (narrow row ≡ true → wide row ≡ true) →
    filter narrow kept ≡ filter narrow rows → filter narrow (cond b (row ∷ kept) kept) ≡ filter narrow (row ∷ rows)
again_by wide narrow row rows kept true is within same = ap (λ (xs : List _). cond (narrow row) (row ∷ xs) xs) same
again_by wide narrow row rows kept false is within same = fails (narrow row) refl
  where
    fails : (b : Bool) → narrow row ≡ b → filter narrow kept ≡ cond b (row ∷ filter narrow rows) (filter narrow rows)
    fails true passes = cc (within passes)
    fails false passes = same

pub filter_again : {X : Type 0} (wide narrow : X → Bool) → ((row : X) → narrow row ≡ true → wide row ≡ true) → (rows : List X) →
    filter narrow (filter wide rows) ≡ filter narrow rows
filter_again wide narrow within [] = refl
filter_again wide narrow within (row ∷ rows) = again_by wide narrow row rows (filter wide rows) (wide row) refl (within row) (filter_again wide narrow within rows)

-- rows that ascend are no more than those among which each of them is
pub ascending_few : {K X : Type 0} (cmp : K → K → Ordering) (key : X → K) → IsTotalOrder cmp → (rows others : List X) → IsAscending cmp key rows →
    ((row : X) → Among rows row → Among others row) → length rows ≤ length others
ascending_few cmp key o [] others up into = omega arith
ascending_few cmp key o (row ∷ rows) others up into =
    let test : _ → Bool = λ x. not (has_key cmp key (key row) x) in
    let own : test row ≡ false = ap (λ c. not (is_eq c)) (tied_itself o (key row)) in
    let other : (x : _) → Among rows x → test x ≡ true = λ x among. ap (λ c. not (is_eq c))
    (o.antisymm (key x) (key row) ∙ ap ordering_reverse (above_among cmp key (key row) rows x up.0 among)) in
    let rest = ascending_few cmp key o rows (filter test others) up.1 (λ x among. filter_among test others x (into x (inr among)) (other x among)) in
    omega (arith, rest, fewer_left test others row (into row (inl refl)) own)

-- a row that is put is one more at most
put_by_few : {X : Type 0} (row next : X) (rows behind : List X) (o : Ordering) → length behind ≤ length rows + 1 → length (put_by o row next rows behind) ≤ length rows + 1 + 1
put_by_few row next rows behind Less more = omega (arith, more)
put_by_few row next rows behind Equal more = omega arith
put_by_few row next rows behind Greater more = omega arith

pub put_few : {K X : Type 0} (cmp : K → K → Ordering) (key : X → K) (row : X) (rows : List X) → length (put_row cmp key row rows) ≤ length rows + 1
unfolding put_row
put_few cmp key row [] = omega arith
put_few cmp key row (next ∷ rows) = omega (arith, put_by_few row next rows (put_row cmp key row rows) (cmp (key next) (key row)) (put_few cmp key row rows))
