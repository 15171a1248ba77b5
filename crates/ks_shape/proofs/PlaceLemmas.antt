-- Going down by one name more.
use Rattle.std.proofs.Common.{◌≡◌, ℕ, zero, suc, ◌+◌, ◌<◌, ◌≤◌, true, false, List, [], ◌∷◌, length, get_or, take, drop, Some, None, Ok, Err, refl, sym, arith, add-one}
use Rattle.std.specs.Prelude.{Option, is_some}
use Rattle.std.specs.Borrow.{Bor}
use Rattle.serde_json.specs.Data.{Data}
use Rattle.serde_json.specs.Find.{get, as_object}
use Rattle.ks_base.specs.declared.shapes.ShapeFault.TheVariants as fault
use Rattle.ks_shape.specs.Places.{names_in, member_path, path_below, value_below}

path_more : (path : List ℕ) (xs : List (Bor (List ℕ))) (i : ℕ) (x : Bor (List ℕ)) → i < length xs
    → path_below path (names_in (drop i xs)) ≡ path_below (member_path path (get_or xs i x).now) (names_in (drop (suc i) xs))
unfolding path_below
path_more path [] i x lt = absurd (omega arith)
path_more path (y ∷ ys) zero x lt = refl
path_more path (y ∷ ys) (suc i) x lt = path_more path ys i x (omega arith)

-- the path, with one name more of it
pub path_step : (path more : List ℕ) (xs : List (Bor (List ℕ))) (i : ℕ) (x : Bor (List ℕ)) → i < length xs
    → more ≡ member_path path (get_or xs i x).now
    → path_below more (names_in (drop (i + 1) xs)) ≡ path_below path (names_in (drop i xs))
path_step path more xs i x lt e = rw (e, add-one) (sym (path_more path xs i x lt))

pub path_end : (path : List ℕ) (xs : List (Bor (List ℕ))) (i : ℕ) → length xs ≤ i → path_below path (names_in (drop i xs)) ≡ path
unfolding path_below
path_end path [] zero le = refl
path_end path [] (suc i) le = refl
path_end path (y ∷ ys) zero le = absurd (omega arith)
path_end path (y ∷ ys) (suc i) le = path_end path ys i (omega arith)

-- a member of an object
found_member : (path name : List ℕ) (names : List (List ℕ)) (v : Data) → is_some (as_object v) ≡ true
    → value_below path (name ∷ names) (Some v) ≡ value_below (member_path path name) names (get name v)
unfolding value_below
found_member path name names v is = rw is refl

value_more : (path : List ℕ) (xs : List (Bor (List ℕ))) (i : ℕ) (x : Bor (List ℕ)) (v : Data) → i < length xs → is_some (as_object v) ≡ true
    → value_below (path_below path (names_in (take i xs))) (names_in (drop i xs)) (Some v)
    ≡ value_below (path_below path (names_in (take (suc i) xs))) (names_in (drop (suc i) xs)) (get (get_or xs i x).now v)
unfolding path_below
value_more path [] i x v lt is = absurd (omega arith)
value_more path (y ∷ ys) zero x v lt is = found_member path y.now (names_in ys) v is
value_more path (y ∷ ys) (suc i) x v lt is = value_more (member_path path y.now) ys i x v (omega arith) is

-- the value, with one name more of the way to it
pub value_step : (path : List ℕ) (xs : List (Bor (List ℕ))) (i : ℕ) (x : Bor (List ℕ)) (v : Data) → i < length xs → is_some (as_object v) ≡ true
    → value_below (path_below path (names_in (take i xs))) (names_in (drop i xs)) (Some v)
    ≡ value_below (path_below path (names_in (take (i + 1) xs))) (names_in (drop (i + 1) xs)) (get (get_or xs i x).now v)
value_step path xs i x v lt is = rw add-one (value_more path xs i x v lt is)

pub value_start : (path : List ℕ) (xs : List (Bor (List ℕ))) (v : Option Data)
    → value_below (path_below path (names_in (take 0 xs))) (names_in (drop 0 xs)) v ≡ value_below path (names_in xs) v
unfolding path_below
value_start path [] v = refl
value_start path (x ∷ xs) v = refl

pub value_end : (path : List ℕ) (xs : List (Bor (List ℕ))) (i : ℕ) (v : Option Data) → length xs ≤ i → value_below path (names_in (drop i xs)) v ≡ Ok v
unfolding value_below
value_end path [] zero v le = refl
value_end path [] (suc i) v le = refl
value_end path (y ∷ ys) zero v le = absurd (omega arith)
value_end path (y ∷ ys) (suc i) v le = value_end path ys i v (omega arith)

-- below nothing is nothing
pub value_none : (path : List ℕ) (names : List (List ℕ)) → value_below path names None ≡ Ok None
unfolding value_below
value_none path [] = refl
value_none path (name ∷ names) = refl

-- what is no object has no members
pub value_stuck : (path : List ℕ) (xs : List (Bor (List ℕ))) (i : ℕ) (v : Data) → i < length xs → is_some (as_object v) ≡ false
    → value_below path (names_in (drop i xs)) (Some v) ≡ Err (fault.Kind path)
unfolding value_below
value_stuck path [] i v lt is = absurd (omega arith)
value_stuck path (y ∷ ys) zero v lt is = rw is refl
value_stuck path (y ∷ ys) (suc i) v lt is = value_stuck path ys i v (omega arith) is
