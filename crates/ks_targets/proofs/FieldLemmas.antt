-- Fields that are put one behind the other.
use Rattle.std.proofs.Common.{◌≡◌, ◌++◌, Result, Ok, Err, OnOk, ap, ◌∙◌, append_assoc}
use Rattle.ks_base.specs.declared.memory.Memory.{Memory}
use Rattle.ks_rule.specs.Kinds.{Fields}

pub two_put : (result : Result (Unit {0}) Memory) (old one two a b : Fields) → one ≡ old ++ a → OnOk result (two ≡ one ++ b) → OnOk result (two ≡ old ++ (a ++ b))
two_put (Ok u) old one two a b first second = second ∙ ap (λ (front : Fields). front ++ b) first ∙ append_assoc old a b
two_put (Err memory) old one two a b first second = tt
