-- What a refusal leaves, for the crates above.
use Rattle.std.proofs.Common.{◌≡◌, inr, Bool, true, false, Option, Some, None, Result, Ok, Err, refl, sym, ap, ◌∙◌}
use Rattle.ks_base.specs.Refusals.{fault_if, fault_in, Decides, Changes}

-- a change that is refused for the first cause that applies
pub refused : (X F S : Type 0) (memory : F) (refusal : Option F) (old changed : S) (other : F) → Some other ≡ refusal →
    Changes {X = X} memory refusal old changed (Err other) old
refused X F S memory refusal old changed other is = (inr (sym is), refl)

-- an answer tells why it is refused, so it is not want of memory where that is no cause
pub never_memory : (X F S : Type 0) (memory : F) (refusal : Option F) (old changed new : S) (answer : Result X F) →
    (refusal ≡ Some memory → ⊥) → Decides refusal old changed answer new → answer ≡ Err memory → ⊥
never_memory X F S memory refusal old changed new (Ok x) never decided is = cc
never_memory X F S memory refusal old changed new (Err other) never decided is = never (decided.0 ∙ ap fault_in is)

-- a cause that is not told does not apply
pub unless_fault : {F : Type 0} (applies : Bool) (fault : F) → fault_if applies fault ≡ None → applies ≡ false
unless_fault true fault none = cc
unless_fault false fault none = refl
