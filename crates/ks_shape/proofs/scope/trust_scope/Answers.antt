use Rattle.std.proofs.Common.{refl}
use Rattle.ks_shape.specs.Logins.{trust_scope}
use Rattle.ks_shape.specs.Places.{place_of}
use Rattle.ks_shape.proofs.RefusalLemmas.{stops}
use Rattle.ks_shape.proofs.scope.trust_scope.Goals as goal

pub returns-in_err-id : goal.returns-in_err-id
unfolding trust_scope
returns-in_err-id c =
    stops c.from_residual.result c.in_err-id.field-0.0 _ (trust_scope (place_of c.args.node.now)) c.from_residual.ensures.1 c.in_err-id.ensures
    (λ fault h. rw h refl)

pub returns : goal.returns
unfolding trust_scope
returns c = rw c.in_ok-id.ensures refl
