-- What is found and what goes on, or the first fault.
use Rattle.std.specs.Prelude.{Bool, true, false, Option, Some, None, Result, Ok, Err}

-- go on with what was found, or stop at the fault
infixl 10 ◌>>=◌
abbrev pub ◌>>=◌ : {A B F : Type 0} → Result A F → (A → Result B F) → Result B F
Ok a >>= f = f a
Err fault >>= f = Err fault

-- what is found, or else this fault
abbrev pub found : {A F : Type 0} → Option A → F → Result A F
found (Some a) fault = Ok a
found None fault = Err fault

-- | nothing where a condition holds, or else this fault
abbrev pub need : {F : Type 0} → Bool → F → Result (Unit {0}) F
need true fault = Ok tt
need false fault = Err fault
