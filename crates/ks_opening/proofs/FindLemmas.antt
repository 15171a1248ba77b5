-- Rows of a list by their first places, and the first fault of a list.
use Rattle.std.proofs.Common.{◌≡◌, ℕ, zero, suc, ◌+◌, ◌<◌, ◌≤◌, Bool, true, false, ◌||◌, cond, List, [], ◌∷◌, ◌++◌, length, take, drop, get_or, Option, Some, None, IfSome, is_some, Result, Ok, Err, refl, sym, ap, subst, ◌∙◌, arith}
use std.Path.{fun_ext}
use Rattle.std.specs.declared.cmp.Ordering.{Ordering}
use Rattle.std.specs.Cmp.{IsTotalOrder}
use Rattle.std.specs.List.{find, list_any}
use Rattle.std.specs.Option.{option_map, option_or}
use Rattle.std.specs.Ordering.{is_eq}
use Rattle.std.specs.Result.{IsErrAnd}
use Rattle.ks_base.specs.Refusals.{fault_in}
use Rattle.std.proofs.lemmas.Cmp.{alike_right}
use Rattle.std.proofs.lemmas.List.{drop_all, drop_more, take_more}
use Rattle.ks_base.specs.Tables.{has_key}
use Rattle.ks_base.proofs.RowLemmas.{eq_is}
use Rattle.ks_machine.specs.declared.settings.OpenFault.{OpenFault}
use Rattle.ks_machine.specs.Opened.{first_in}
use Rattle.ks_opening.specs.steps.Indexed.{place_of}

-- a fault that is handed on
pub told : {X : Type 0} (r : Result X OpenFault) (why : OpenFault) → IsErrAnd r (λ e. e ≡ why) → fault_in r ≡ Some why
told (Ok x) why is = absurd is
told (Err e) why is = ap Some is

-- the first fault

pub first_here : {R : Type 0} (f : List R → R → Option OpenFault) (rows : List R) (i : ℕ) (row : R) (why : OpenFault) → i < length rows → row ≡ get_or rows i row →
    f (take i rows) row ≡ Some why → first_in f (take i rows) (drop i rows) ≡ Some why
unfolding first_in
first_here f rows i row why within is faulty =
    ap (first_in f (take i rows)) (drop_more rows i row within ∙ ap (λ (x : _). x ∷ drop (i + 1) rows) (sym is))
    ∙ ap (λ (o : Option OpenFault). option_or o (first_in f (take i rows ++ row ∷ []) (drop (i + 1) rows))) faulty

pub first_later : {R : Type 0} (f : List R → R → Option OpenFault) (rows : List R) (i : ℕ) (row : R) → i < length rows → row ≡ get_or rows i row →
    f (take i rows) row ≡ None → first_in f (take i rows) (drop i rows) ≡ first_in f (take (i + 1) rows) (drop (i + 1) rows)
unfolding first_in
first_later f rows i row within is fine =
    ap (first_in f (take i rows)) (drop_more rows i row within ∙ ap (λ (x : _). x ∷ drop (i + 1) rows) (sym is))
    ∙ ap (λ (o : Option OpenFault). option_or o (first_in f (take i rows ++ row ∷ []) (drop (i + 1) rows))) fine
    ∙ ap (λ (before : List _). first_in f before (drop (i + 1) rows)) (sym (take_more rows i row within ∙ ap (λ (x : _). take i rows ++ x ∷ []) (sym is)))

pub first_end : {R : Type 0} (f : List R → R → Option OpenFault) (rows : List R) (i : ℕ) → length rows ≤ i → first_in f (take i rows) (drop i rows) ≡ None
unfolding first_in
first_end f rows i end = ap (first_in f (take i rows)) (drop_all i rows end)

-- the same of the items that hold the rows

pub here_in : {R : Type 0} (f : List R → R → Option OpenFault) (items rows : List R) (i : ℕ) (row : R) (why : OpenFault) → items ≡ rows → i < length items →
    row ≡ get_or items i row → Some why ≡ f (take i rows) row → Some why ≡ first_in f (take i rows) (drop i rows)
here_in f items rows i row why same within is faulty =
    sym (first_here f rows i row why (subst (λ (l : List _). i < length l) same within) (is ∙ ap (λ (l : List _). get_or l i row) same) (sym faulty))

pub later_in : {R : Type 0} (f : List R → R → Option OpenFault) (items rows : List R) (i : ℕ) (row : R) → items ≡ rows → i < length items →
    row ≡ get_or items i row → None ≡ f (take i rows) row → first_in f (take (i + 1) rows) (drop (i + 1) rows) ≡ first_in f (take i rows) (drop i rows)
later_in f items rows i row same within is fine =
    sym (first_later f rows i row (subst (λ (l : List _). i < length l) same within) (is ∙ ap (λ (l : List _). get_or l i row) same) (sym fine))

pub end_in : {R : Type 0} (f : List R → R → Option OpenFault) (items rows : List R) (i : ℕ) → items ≡ rows → length items ≤ i →
    None ≡ first_in f (take i rows) (drop i rows)
end_in f items rows i same end = sym (first_end f rows i (subst (λ (l : List _). length l ≤ i) same end))

-- two keys that tie are those of the same rows

pub same_test : {K X : Type 0} (cmp : K → K → Ordering) (key : X → K) → IsTotalOrder cmp → (a b : K) → is_eq (cmp a b) ≡ true →
    has_key cmp key a ≡ has_key cmp key b
same_test cmp key o a b is = fun_ext (λ row. ap is_eq (alike_right o a b (key row) (eq_is (cmp a b) is)))

-- places

push_by : (b : Bool) (o p : Option ℕ) (n : ℕ) → p ≡ option_or o (cond b (Some n) None) →
    (c : Bool) → cond c (Some 0) (option_map suc p) ≡ option_or (cond c (Some 0) (option_map suc o)) (cond b (Some (suc n)) None)
push_by b o p n is true = refl
push_by true None p n is false = ap (option_map suc) is
push_by false None p n is false = ap (option_map suc) is
push_by b (Some i) p n is false = ap (option_map suc) is

pub place_push : {X : Type 0} (test : X → Bool) (rows : List X) (row : X) →
    place_of test (rows ++ row ∷ []) ≡ option_or (place_of test rows) (cond (test row) (Some (length rows)) None)
unfolding place_of
place_push test [] row = refl
place_push test (next ∷ rows) row =
    push_by (test row) (place_of test rows) (place_of test (rows ++ row ∷ [])) (length rows) (place_push test rows row) (test next)

-- a row is found exactly if there is one
some_by : (b : Bool) (o : Option ℕ) (t : Bool) → is_some o ≡ t → is_some (cond b (Some 0) (option_map suc o)) ≡ (b || t)
some_by true o t is = refl
some_by false None t is = is
some_by false (Some i) t is = is

pub some_place : {X : Type 0} (test : X → Bool) (rows : List X) → is_some (place_of test rows) ≡ list_any test rows
unfolding place_of
some_place test [] = refl
some_place test (row ∷ rows) = some_by (test row) (place_of test rows) (list_any test rows) (some_place test rows)

-- what is found first stands at the place
at_place_by : {X : Type 0} (test : X → Bool) (row : X) (rows : List X) (b : Bool) (o : Option ℕ) (i : ℕ) (d : X) → test row ≡ b → o ≡ place_of test rows →
    cond b (Some 0) (option_map suc o) ≡ Some i → ((j : ℕ) → o ≡ Some j → find test rows ≡ Some (get_or rows j d)) →
    cond b (Some row) (find test rows) ≡ Some (get_or (row ∷ rows) i d)
at_place_by test row rows true o zero d is from found later = refl
at_place_by test row rows true o (suc i) d is from found later = cc
at_place_by test row rows false None i d is from found later = cc
at_place_by test row rows false (Some j) zero d is from found later = cc
at_place_by test row rows false (Some j) (suc i) d is from found later =
    let same : j ≡ i = cc in
    later j refl ∙ ap (λ n. Some (get_or rows n d)) same

pub at_place : {X : Type 0} (test : X → Bool) (rows : List X) (i : ℕ) (d : X) → place_of test rows ≡ Some i → find test rows ≡ Some (get_or rows i d)
unfolding place_of
at_place test [] i d found = cc
at_place test (row ∷ rows) i d found =
    at_place_by test row rows (test row) (place_of test rows) i d refl refl found (λ j is. at_place test rows j d is)

within_by : (n : ℕ) (b : Bool) (o : Option ℕ) (i : ℕ) → cond b (Some 0) (option_map suc o) ≡ Some i → ((j : ℕ) → o ≡ Some j → j < n) → i < suc n
within_by n true o i found later = let zero_is : 0 ≡ i = cc in omega (arith, zero_is)
within_by n false None i found later = cc
within_by n false (Some j) i found later = let next : suc j ≡ i = cc in omega (arith, later j refl, next)

pub at_place_within : {X : Type 0} (test : X → Bool) (rows : List X) (i : ℕ) → place_of test rows ≡ Some i → i < length rows
unfolding place_of
at_place_within test [] i found = cc
at_place_within test (row ∷ rows) i found =
    within_by (length rows) (test row) (place_of test rows) i found (λ j is. at_place_within test rows j is)

no_place_by : {X : Type 0} (row : X) (rest : Option X) (b : Bool) (o : Option ℕ) → cond b (Some 0) (option_map suc o) ≡ None → (o ≡ None → rest ≡ None) →
    cond b (Some row) rest ≡ None
no_place_by row rest true o none later = cc
no_place_by row rest false None none later = later refl
no_place_by row rest false (Some i) none later = cc

pub no_place : {X : Type 0} (test : X → Bool) (rows : List X) → place_of test rows ≡ None → find test rows ≡ None
unfolding place_of
no_place test [] none = refl
no_place test (row ∷ rows) none = no_place_by row (find test rows) (test row) (place_of test rows) none (no_place test rows)

-- and so it does among the first rows, if the place is one of theirs
find_early_by : {X : Type 0} (row : X) (b : Bool) (o : Option ℕ) (n i : ℕ) (early all : Option X) → cond b (Some 0) (option_map suc o) ≡ Some i → i < suc n →
    ((j : ℕ) → o ≡ Some j → j < n → early ≡ all) → cond b (Some row) early ≡ cond b (Some row) all
find_early_by row true o n i early all found lt later = refl
find_early_by row false None n i early all found lt later = cc
find_early_by row false (Some j) n zero early all found lt later = cc
find_early_by row false (Some j) n (suc i) early all found lt later = let same : j ≡ i = cc in later j refl (omega (arith, lt, same))

pub find_early : {X : Type 0} (test : X → Bool) (rows : List X) (n i : ℕ) → place_of test rows ≡ Some i → i < n → find test (take n rows) ≡ find test rows
unfolding place_of
find_early test [] n i found lt = cc
find_early test (row ∷ rows) zero i found lt = absurd (omega (arith, lt))
find_early test (row ∷ rows) (suc n) i found lt =
    find_early_by row (test row) (place_of test rows) n i (find test (take n rows)) (find test rows) found lt (λ j is less. find_early test rows n j is less)

find_late_by : {X : Type 0} (row : X) (b : Bool) (o : Option ℕ) (n : ℕ) (early : Option X) → IfSome (cond b (Some 0) (option_map suc o)) (λ i. suc n ≤ i) →
    (IfSome o (λ j. n ≤ j) → early ≡ None) → cond b (Some row) early ≡ None
find_late_by row true o n early late later = absurd (omega (arith, late))
find_late_by row false None n early late later = later tt
find_late_by row false (Some j) n early late later = later (omega (arith, late))

pub find_late : {X : Type 0} (test : X → Bool) (rows : List X) (n : ℕ) → IfSome (place_of test rows) (λ i. n ≤ i) → find test (take n rows) ≡ None
unfolding place_of
find_late test [] zero late = refl
find_late test [] (suc n) late = refl
find_late test (row ∷ rows) zero late = refl
find_late test (row ∷ rows) (suc n) late =
    find_late_by row (test row) (place_of test rows) n (find test (take n rows)) late (find_late test rows n)
