-- Facts that were told are true.
use Rattle.std.proofs.Common.{Bool, true, false, cond, inl, inr, Some, None, refl}
use Rattle.ks_auth.specs.Facts.{FactsState, has_derived, has_opened, told}
use Rattle.ks_fernet.specs.Opening.{open_of}
use Rattle.ks_hmac.specs.Pbkdf2.{pbkdf2_of}
use Rattle.ks_machine.specs.FactLaws.{AreTrue, IsTrue}

true_if : {X : Type 0} (b : Bool) (x : X) → IsTrue (cond b (Some x) None) x
true_if true x = inr refl
true_if false x = inl refl

pub told_is_true : (facts : FactsState) → AreTrue (told facts)
unfolding told
told_is_true facts = record {
  answers = λ held text. true_if (has_opened held text facts.opened) (open_of held.key text);
  derivations = λ password salt rounds. true_if (has_derived password salt rounds facts.derived) (pbkdf2_of password salt rounds);
}
