-- What is there, and what is not.
use Rattle.std.proofs.Common.{◌≡◌, true, false, Option, Some, None, is_some, option_map, refl}

pub some_is : {X : Type 0} (o : Option X) → is_some o ≡ true → (x : X) × (o ≡ Some x)
some_is None some = cc
some_is (Some x) some = (x, refl)

pub none_is : {X : Type 0} (o : Option X) → is_some o ≡ false → o ≡ None
none_is None none = refl
none_is (Some x) none = cc

pub none_mapped : {X Y : Type 0} (f : X → Y) (o : Option X) → option_map f o ≡ None → o ≡ None
none_mapped f None none = refl
none_mapped f (Some x) none = cc
