-- What stands in a list.
use Rattle.std.proofs.Common.{◌≡◌, ℕ, zero, suc, ◌<◌, Bool, true, false, ◌||◌, ◌⊎◌, inl, inr, List, [], ◌∷◌, ◌++◌, length, map, get_or, refl, ap, subst, ◌∙◌, sym, arith}
use Rattle.std.specs.List.{AllByRecursion, filter, flat_map, list_any}
use Rattle.std.proofs.lemmas.Bool.{or_right}
use Rattle.std.proofs.lemmas.Bool.Decides.{Decides-or, Decides-like}
use Rattle.std.proofs.lemmas.Slice.Eq.{bytes_eq-Decides}
use Rattle.std.specs.Bool.{Decides}
use Rattle.ks_base.specs.Tables.{Among}
use Rattle.ks_base.specs.Rows.{Id, has_id, same}
use Rattle.ks_base.proofs.ListLemmas.{fewer_behind, fewer_here, length_filter}

-- what holds of each

pub all_among : {X : Type 0} (P : X → Type 0) (xs : List X) (x : X) → AllByRecursion P xs → Among xs x → P x
all_among P [] x all among = absurd among
all_among P (next ∷ xs) x all (inl same) = subst P same all.0
all_among P (next ∷ xs) x all (inr later) = all_among P xs x all.1 later

pub among_all : {X : Type 0} (P : X → Type 0) (xs : List X) → ((x : X) → Among xs x → P x) → AllByRecursion P xs
among_all P [] each = tt
among_all P (next ∷ xs) each = (each next (inl refl), among_all P xs (λ x later. each x (inr later)))

-- one more before a list of them
pub among_next : {X : Type 0} (first x : X) (xs others : List X) → (first ≡ x) ⊎ Among others x → (Among others x → Among xs x) → Among (first ∷ xs) x
among_next first x xs others (inl is) later = inl is
among_next first x xs others (inr among) later = inr (later among)

-- two lists, one behind the other

pub among_left : {X : Type 0} (xs ys : List X) (x : X) → Among xs x → Among (xs ++ ys) x
among_left [] ys x among = absurd among
among_left (next ∷ xs) ys x (inl is) = inl is
among_left (next ∷ xs) ys x (inr among) = inr (among_left xs ys x among)

pub among_right : {X : Type 0} (xs ys : List X) (x : X) → Among ys x → Among (xs ++ ys) x
among_right [] ys x among = among
among_right (next ∷ xs) ys x among = inr (among_right xs ys x among)

pub among_parts : {X : Type 0} (xs ys : List X) (x : X) → Among (xs ++ ys) x → Among xs x ⊎ Among ys x
among_parts [] ys x among = inr among
among_parts (next ∷ xs) ys x (inl is) = inl (inl is)
among_parts {X} (next ∷ xs) ys x (inr among) = by (among_parts xs ys x among)
  where
    by : Among xs x ⊎ Among ys x → Among (next ∷ xs) x ⊎ Among ys x
    by (inl first) = inl (inr first)
    by (inr last) = inr last

-- one more at the end
pub among_push : {X : Type 0} (xs : List X) (last x : X) → Among (xs ++ last ∷ []) x → Among xs x ⊎ (last ≡ x)
among_push {X} xs last x among = by (among_parts xs (last ∷ []) x among)
  where
    by : Among xs x ⊎ Among (last ∷ []) x → Among xs x ⊎ (last ≡ x)
    by (inl first) = inl first
    by (inr (inl same)) = inr same
    by (inr (inr none)) = absurd none

-- images

pub map_among : {X Y : Type 0} (f : X → Y) (xs : List X) (x : X) → Among xs x → Among (map f xs) (f x)
map_among f [] x among = absurd among
map_among f (next ∷ xs) x (inl is) = inl (ap f is)
map_among f (next ∷ xs) x (inr among) = inr (map_among f xs x among)

pub among_mapped : {X Y : Type 0} (f : X → Y) (xs : List X) (y : Y) → Among (map f xs) y → (x : X) × Among xs x × (f x ≡ y)
among_mapped f [] y among = absurd among
among_mapped f (next ∷ xs) y (inl is) = (next, inl refl, is)
among_mapped f (next ∷ xs) y (inr among) = let found = among_mapped f xs y among in (found.0, inr found.1, found.2)

-- lists of each, joined end to end

pub among_joined : {X Y : Type 0} (f : X → List Y) (xs : List X) (y : Y) → Among (flat_map f xs) y → (x : X) × Among xs x × Among (f x) y
among_joined f [] y among = absurd among
among_joined {X} {Y} f (next ∷ xs) y among = by (among_parts (f next) (flat_map f xs) y among) (among_joined f xs y)
  where
    by : Among (f next) y ⊎ Among (flat_map f xs) y → (Among (flat_map f xs) y → (x : X) × Among xs x × Among (f x) y) →
        (x : X) × Among (next ∷ xs) x × Among (f x) y
    by (inl here) behind = (next, inl refl, here)
    by (inr later) behind = let found = behind later in (found.0, inr found.1, found.2)

pub joined_among : {X Y : Type 0} (f : X → List Y) (xs : List X) (x : X) (y : Y) → Among xs x → Among (f x) y → Among (flat_map f xs) y
joined_among f [] x y among here = absurd among
joined_among f (next ∷ xs) x y (inl is) here = among_left (f next) (flat_map f xs) y (subst (λ z. Among (f z) y) (sym is) here)
joined_among f (next ∷ xs) x y (inr later) here = among_right (f next) (flat_map f xs) y (joined_among f xs x y later here)

-- a test that one of them passes

pub any_to : {X : Type 0} (test : X → Bool) (xs : List X) (x : X) → Among xs x → test x ≡ true → list_any test xs ≡ true
any_to test [] x among holds = absurd among
any_to test (next ∷ xs) x (inl is) holds = let here : test next ≡ true = ap test is ∙ holds in rw here refl
any_to test (next ∷ xs) x (inr among) holds = or_right (test next) (list_any test xs) (any_to test xs x among holds)

any_from_by : {X : Type 0} (test : X → Bool) (next : X) (xs : List X) (b : Bool) → test next ≡ b → (b || list_any test xs) ≡ true →
    (list_any test xs ≡ true → (x : X) × Among xs x × (test x ≡ true)) → (x : X) × Among (next ∷ xs) x × (test x ≡ true)
any_from_by test next xs true is any later = (next, inl refl, is)
any_from_by test next xs false is any later = let found = later any in (found.0, inr found.1, found.2)

pub any_from : {X : Type 0} (test : X → Bool) (xs : List X) → list_any test xs ≡ true → (x : X) × Among xs x × (test x ≡ true)
any_from test [] any = cc
any_from test (next ∷ xs) any = any_from_by test next xs (test next) refl any (any_from test xs)

-- a test of each item finds one that passes
pub any-Decides : {X : Type 0} (test : X → Bool) (P : X → Type 0) → ((x : X) → Decides (test x) (P x)) → (xs : List X) →
    Decides (list_any test xs) ((x : X) × Among xs x × P x)
any-Decides {X} test P each [] = (λ found. cc, none)
  where
    none : (x : X) × Among [] x × P x → false ≡ true
    none (x, among, holds) = absurd among
any-Decides {X} test P each (next ∷ xs) =
    Decides-like (test next || list_any test xs) forth back (Decides-or (test next) (list_any test xs) (each next) (any-Decides test P each xs))
  where
    forth : P next ⊎ ((x : X) × Among xs x × P x) → (x : X) × Among (next ∷ xs) x × P x
    forth (inl holds) = (next, inl refl, holds)
    forth (inr (x, among, holds)) = (x, inr among, holds)

    back : (x : X) × Among (next ∷ xs) x × P x → P next ⊎ ((x : X) × Among xs x × P x)
    back (x, inl is, holds) = inl (subst P (sym is) holds)
    back (x, inr among, holds) = inr (x, among, holds)

-- and a test for one item, whether it is among them
pub among-Decides : {X : Type 0} (test : X → Bool) (item : X) → ((x : X) → Decides (test x) (x ≡ item)) → (xs : List X) →
    Decides (list_any test xs) (Among xs item)
among-Decides {X} test item each xs = Decides-like (list_any test xs) forth (λ among. (item, among, refl)) (any-Decides test (λ x. x ≡ item) each xs)
  where
    forth : (x : X) × Among xs x × (x ≡ item) → Among xs item
    forth (x, among, is) = subst (Among xs) is among

pub has_id-Decides : (id : Id) (ids : List Id) → Decides (has_id ids id) (Among ids id)
has_id-Decides id ids = among-Decides (λ other. same other id) id (λ other. bytes_eq-Decides other id) ids

-- what stands at a place

pub get_among : {X : Type 0} (xs : List X) (i : ℕ) (d : X) → i < length xs → Among xs (get_or xs i d)
get_among [] i d lt = absurd (omega arith)
get_among (x ∷ xs) zero d lt = inl refl
get_among (x ∷ xs) (suc i) d lt = inr (get_among xs i d (omega arith))

-- where one does not pass, fewer are left
pub fewer_left : {X : Type 0} (test : X → Bool) (rows : List X) (row : X) → Among rows row → test row ≡ false → length (filter test rows) < length rows
fewer_left test [] row among fails = absurd among
fewer_left test (next ∷ rows) row (inl same) fails =
    fewer_here (test next) true next (filter test rows) rows (ap test same ∙ fails) refl (length_filter test rows)
fewer_left test (next ∷ rows) row (inr later) fails =
    fewer_behind (test next) true next (filter test rows) rows (λ passes. refl) (fewer_left test rows row later fails)
