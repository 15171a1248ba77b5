-- The first cause that applies, and what a refusal leaves.
use Rattle.std.specs.Prelude.{◌≡◌, ◌⊎◌, Bool, List, [], ◌∷◌, Option, Some, None, Result, Ok, Err, if◌then◌else◌}

-- a fault where it applies
abbrev pub fault_if : {F : Type 0} → Bool → F → Option F
fault_if applies fault = if applies then Some fault else None

-- | the first that applies
abbrev pub first_of : {F : Type 0} → List (Option F) → Option F
first_of [] = None
first_of (None ∷ faults) = first_of faults
first_of (Some fault ∷ faults) = Some fault

-- the fault of an answer
abbrev pub fault_in : {X F : Type 0} → Result X F → Option F
fault_in (Ok x) = None
fault_in (Err fault) = Some fault

-- the change is made where no cause applies; else its fault is answered, and nothing changes
abbrev pub Decides : {X F S : Type 0} → Option F → S → S → Result X F → S → Type 0
Decides refusal old changed (Ok x) new = (refusal ≡ None) × (new ≡ changed)
Decides refusal old changed (Err fault) new = (refusal ≡ Some fault) × (new ≡ old)

-- the same where memory may end, and then nothing changes
abbrev pub Changes : {X F S : Type 0} → F → Option F → S → S → Result X F → S → Type 0
Changes memory refusal old changed (Ok x) new = (refusal ≡ None) × (new ≡ changed)
Changes memory refusal old changed (Err fault) new = ((fault ≡ memory) ⊎ (refusal ≡ Some fault)) × (new ≡ old)
