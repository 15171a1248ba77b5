use Rattle.std.proofs.Common.{refl}
use Rattle.ks_shape.specs.Logins.{system_scope}
use Rattle.ks_shape.specs.Places.{place_of}
use Rattle.ks_shape.proofs.RefusalLemmas.{stops}
use Rattle.ks_shape.proofs.scope.system_scope.Goals as goal

pub returns-in_err-_all : goal.returns-in_err-_all
unfolding system_scope
returns-in_err-_all c =
    stops c.from_residual.result c.in_err-_all.field-0.0 _ (system_scope (place_of c.args.node.now)) c.from_residual.ensures.1 c.in_err-_all.ensures
    (λ fault h. rw h refl)

pub returns : goal.returns
unfolding system_scope
returns c = rw c.in_ok-_all.ensures refl
