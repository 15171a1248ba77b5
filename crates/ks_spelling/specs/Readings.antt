-- What holds of options and of bytes that readings are made of.
use Rattle.std.proofs.Common.{◌≡◌, ℕ, zero, suc, Bool, true, false, cond, List, [], ◌∷◌, ◌++◌, Option, Some, None, refl, subst, arith}
use Rattle.std.specs.Prelude.{option_and_then, option_map}
use Rattle.ks_spelling.specs.Codes.{IsBytes}

pub bytes_behind : (a b : List ℕ) → IsBytes (a ++ b) → IsBytes b
bytes_behind [] b h = h
bytes_behind (x ∷ a) b h = bytes_behind a b (λ i. h (suc i))

pub bytes_before : (a b : List ℕ) → IsBytes (a ++ b) → IsBytes a
bytes_before [] b h i = omega arith
bytes_before (x ∷ a) b h zero = h 0
bytes_before (x ∷ a) b h (suc i) = bytes_before a b (λ k. h (suc k)) i

pub bytes_after_first : (b : ℕ) (bytes : List ℕ) → IsBytes (b ∷ bytes) → IsBytes bytes
bytes_after_first b bytes h i = h (suc i)

-- the rest of what was taken off the front
pub bytes_left : (bytes a b : List ℕ) → bytes ≡ a ++ b → IsBytes bytes → IsBytes b
bytes_left bytes a b e h = bytes_behind a b (subst (λ (xs : List ℕ). IsBytes xs) e h)

pub same_some : {A : Type 0} (x y : A) → Some x ≡ Some y → x ≡ y
same_some x y h = cc

pub and_then_some : {A B : Type 0} (f : A → Option B) (o : Option A) (y : B) → option_and_then f o ≡ Some y → (x : A) × (o ≡ Some x) × (f x ≡ Some y)
and_then_some f None y h = absurd cc
and_then_some f (Some x) y h = (x, refl, h)

pub map_some : {A B : Type 0} (f : A → B) (o : Option A) (y : B) → option_map f o ≡ Some y → (x : A) × (o ≡ Some x) × (f x ≡ y)
map_some f None y h = absurd cc
map_some f (Some x) y h = (x, refl, cc)

-- a test that must fail, and one that must pass
pub unless_some : {A : Type 0} (b : Bool) (x y : A) → cond {A = Option A} b None (Some x) ≡ Some y → (b ≡ false) × (x ≡ y)
unless_some true x y h = absurd cc
unless_some false x y h = (refl, cc)

pub if_some : {A : Type 0} (b : Bool) (x y : A) → cond {A = Option A} b (Some x) None ≡ Some y → (b ≡ true) × (x ≡ y)
if_some true x y h = (refl, cc)
if_some false x y h = absurd cc
