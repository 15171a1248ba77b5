-- What is read has a property where each part of it has one.
use Rattle.std.proofs.Common.{List, ℕ, Option, Some, None, Ok, Err}
use Rattle.std.specs.Prelude.{Result, IfOk, IfSome}
use Rattle.ks_base.specs.Results.{◌>>=◌}
use Rattle.serde_json.specs.Data.{Data}
use Rattle.ks_shape.specs.declared.misfit.Misfit.{Misfit}
use Rattle.ks_shape.specs.Fields.{FieldType, if_given, judged, needed, needed_value, optional, optional_value}
use Rattle.ks_shape.specs.Places.{Place, path_at}

-- what is read behind a reading has a property where it has it whatever that reading gives, and where what it gives has another
pub skip : {A B F : Type 0} (Q : B → Type 0) (r : Result A F) (f : A → Result B F) → ((a : A) → IfOk (f a) Q) → IfOk (r >>= f) Q
skip Q (Ok a) f on = on a
skip Q (Err fault) f on = tt

pub step : {A B F : Type 0} (Q : B → Type 0) (P : A → Type 0) (r : Result A F) (f : A → Result B F)
    → IfOk r P → ((a : A) → P a → IfOk (f a) Q) → IfOk (r >>= f) Q
step Q P (Ok a) f is on = on a is
step Q P (Err fault) f is on = tt

pub weaken : {A F : Type 0} (Q P : A → Type 0) (r : Result A F) → IfOk r P → ((a : A) → P a → Q a) → IfOk r Q
weaken Q P (Ok a) is on = on a is
weaken Q P (Err fault) is on = tt

pub judged_in : {A : Type 0} (P : A → Type 0) (path : List ℕ) (r : Result A Misfit) → IfOk r P → IfOk (judged path r) P
judged_in P path (Ok a) is = is
judged_in P path (Err misfit) is = tt

pub needed_in : {A : Type 0} (P : A → Type 0) (type : FieldType A) → ((value : Data) → IfOk (type value) P)
    → (names : List (List ℕ)) (place : Place) → IfOk (needed type names place) P
unfolding needed
needed_in P type each names place =
    skip P (needed_value names place) _ (λ value. judged_in P (path_at names place) (type value) (each value))

abbrev pub If : {A : Type 0} → (A → Type 0) → Option A → Type 0
If P value = IfSome value P

pub given_in : {A : Type 0} (P : A → Type 0) (type : FieldType A) → ((value : Data) → IfOk (type value) P)
    → (value : Option Data) → IfOk (if_given type value) (If P)
given_in P type each None = tt
given_in P type each (Some value) = step (If P) P (type value) (λ a. Ok (Some a)) (each value) (λ a is. is)

pub optional_in : {A : Type 0} (P : A → Type 0) (type : FieldType A) → ((value : Data) → IfOk (type value) P)
    → (names : List (List ℕ)) (place : Place) → IfOk (optional type names place) (If P)
unfolding optional
optional_in P type each names place =
    skip (If P) (optional_value names place) _
    (λ value. judged_in (If P) (path_at names place) (if_given type value) (given_in P type each value))
