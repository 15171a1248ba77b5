-- Lists, beside what std has of them: fronts, places, what is found, what passes a test and how many do.
use Rattle.std.proofs.Common.{◌≡◌, ℕ, zero, suc, ◌+◌, ◌<◌, ◌≤◌, Bool, true, false, ◌||◌, cond, nat_lt, ◌==◌, inl, inr, List, [], ◌∷◌, ◌++◌, length, take, drop, map, get_or, Some, None, is_some, option_map, refl, sym, ap, ◌∙◌, arith, add-one, drop-cons}
use Rattle.std.specs.Prelude.{position}
use Rattle.std.specs.List.{filter, find, list_any, position_or_len}
use Rattle.std.proofs.lemmas.Bool.Decides.{nat_tests}
use Rattle.std.proofs.lemmas.Grind.{common_steps}
use Rattle.ks_base.specs.Tables.{Among}

pub above_zero : (n : ℕ) → (n == 0) ≡ false → 0 < n
above_zero zero e = cc
above_zero (suc n) e = omega arith

-- fronts

pub take_front : {X : Type 0} (n : ℕ) (front back : List X) → length front ≡ n → take n (front ++ back) ≡ front
take_front n front back e = grind (arith, common_steps)

pub drop_front : {X : Type 0} (n : ℕ) (front back : List X) → length front ≡ n → drop n (front ++ back) ≡ back
drop_front n front back e = grind (arith, common_steps)

pub drop_at : {X : Type 0} (xs : List X) (i : ℕ) (x : X) → i < length xs → x ≡ get_or xs i x → drop i xs ≡ x ∷ drop (i + 1) xs
drop_at xs i x below is = drop-cons xs i x below ∙ rw add-one (ap (λ first. first ∷ drop (suc i) xs) (sym is))

pub not_found : {X : Type 0} (test : X → Bool) (xs : List X) → position test xs ≡ None → length xs ≤ position_or_len test xs
not_found test xs none = reaches (position_or_len test xs) (length xs) none
  where
    reaches : (m n : ℕ) → cond (nat_lt m n) (Some m) None ≡ None → n ≤ m
    reaches m n e = grind (arith, nat_tests)

-- maps and filters

pub map_twice : {X Y Z : Type 0} (f : Y → Z) (g : X → Y) (xs : List X) → map f (map g xs) ≡ map (λ x. f (g x)) xs
map_twice f g [] = refl
map_twice f g (x ∷ xs) = ap (λ (rest : List _). f (g x) ∷ rest) (map_twice f g xs)

pub filter_alike : {X : Type 0} (p q : X → Bool) (xs : List X) → ((x : X) → Among xs x → p x ≡ q x) → filter p xs ≡ filter q xs
filter_alike p q [] alike = refl
filter_alike p q (x ∷ xs) alike =
    rw (alike x (inl refl)) (ap (λ (rest : List _). cond (q x) (x ∷ rest) rest) (filter_alike p q xs (λ y among. alike y (inr among))))

-- what is found

find_kept_by : {X : Type 0} (p q : X → Bool) (next : X) (xs : List X) (x : X) (b c : Bool) → p next ≡ b → q next ≡ c → q x ≡ true →
    (find p xs ≡ Some x → find p (filter q xs) ≡ Some x) → cond b (Some next) (find p xs) ≡ Some x → find p (cond c (next ∷ filter q xs) (filter q xs)) ≡ Some x
find_kept_by p q next xs x true true is kept passes later here = rw is here
find_kept_by p q next xs x true false is kept passes later here = let first : next ≡ x = cc in let passed : q next ≡ true = ap q first ∙ passes in cc
find_kept_by p q next xs x false true is kept passes later here = rw is (later here)
find_kept_by p q next xs x false false is kept passes later here = later here

-- what is found and passes is found among those that pass
pub find_kept : {X : Type 0} (p q : X → Bool) (xs : List X) (x : X) → find p xs ≡ Some x → q x ≡ true → find p (filter q xs) ≡ Some x
find_kept p q [] x found passes = cc
find_kept p q (next ∷ xs) x found passes = find_kept_by p q next xs x (p next) (q next) refl refl passes (λ later. find_kept p q xs x later passes) found

find_mapped_by : {X : Type 0} (p : X → Bool) (f : X → X) (next : X) (xs : List X) (b : Bool) → p next ≡ b → p (f next) ≡ p next →
    find p (map f xs) ≡ option_map f (find p xs) → cond (p (f next)) (Some (f next)) (find p (map f xs)) ≡ option_map f (cond b (Some next) (find p xs))
find_mapped_by p f next xs true is same later = rw (same ∙ is) refl
find_mapped_by p f next xs false is same later = rw (same ∙ is) later

-- a change that the test does not see
pub find_mapped : {X : Type 0} (p : X → Bool) (f : X → X) → ((x : X) → p (f x) ≡ p x) → (xs : List X) → find p (map f xs) ≡ option_map f (find p xs)
find_mapped p f same [] = refl
find_mapped p f same (next ∷ xs) = find_mapped_by p f next xs (p next) refl (same next) (find_mapped p f same xs)

-- one is found where one passes
pub any_found : {X : Type 0} (test : X → Bool) (xs : List X) → is_some (find test xs) ≡ list_any test xs
any_found test [] = refl
any_found test (x ∷ xs) = any_by (test x) (any_found test xs)
  where
    any_by : (b : Bool) → is_some (find test xs) ≡ list_any test xs → is_some (cond b (Some x) (find test xs)) ≡ (b || list_any test xs)
    any_by true rest = refl
    any_by false rest = rest

-- how many pass: of two tests one has here at most, or fewer than, what the other has, and behind it too

pub no_more_by : {X : Type 0} (a b : Bool) (x : X) (xs ys : List X) → (a ≡ true → b ≡ true) → length xs ≤ length ys → length (cond a (x ∷ xs) xs) ≤ length (cond b (x ∷ ys) ys)
no_more_by true true x xs ys more le = omega (arith, le)
no_more_by true false x xs ys more le = let both = more refl in cc
no_more_by false true x xs ys more le = omega (arith, le)
no_more_by false false x xs ys more le = le

pub fewer_here : {X : Type 0} (a b : Bool) (x : X) (xs ys : List X) → a ≡ false → b ≡ true → length xs ≤ length ys → length (cond a (x ∷ xs) xs) < length (cond b (x ∷ ys) ys)
fewer_here true b x xs ys none some le = cc
fewer_here false true x xs ys none some le = omega (arith, le)
fewer_here false false x xs ys none some le = cc

pub fewer_behind : {X : Type 0} (a b : Bool) (x : X) (xs ys : List X) → (a ≡ true → b ≡ true) → length xs < length ys → length (cond a (x ∷ xs) xs) < length (cond b (x ∷ ys) ys)
fewer_behind true true x xs ys more lt = omega (arith, lt)
fewer_behind true false x xs ys more lt = let both = more refl in cc
fewer_behind false true x xs ys more lt = omega (arith, lt)
fewer_behind false false x xs ys more lt = lt

length_filter_by : {X : Type 0} (b : Bool) (x : X) (kept xs : List X) → length kept ≤ length xs → length (cond b (x ∷ kept) kept) ≤ length (x ∷ xs)
length_filter_by true x kept xs le = omega (arith, le)
length_filter_by false x kept xs le = omega (arith, le)

pub length_filter : {X : Type 0} (test : X → Bool) (xs : List X) → length (filter test xs) ≤ length xs
length_filter test [] = omega arith
length_filter test (x ∷ xs) = length_filter_by (test x) x (filter test xs) xs (length_filter test xs)
