-- One line for each exit: the fields before it were read, and it stops the form at its fault.
use Rattle.std.proofs.Common.{refl}
use Rattle.ks_shape.specs.Places.{place_of}
use Rattle.ks_shape.specs.Secrets.{secret_of}
use Rattle.ks_shape.proofs.RefusalLemmas.{stops}
use Rattle.ks_shape.proofs.secret.secret.Goals as goal

pub returns-in_err-needed : goal.returns-in_err-needed
unfolding secret_of
returns-in_err-needed c =
    stops c.from_residual.result c.in_err-needed.field-0.0 _ (secret_of (place_of c.args.body.now)) c.from_residual.ensures.1 c.in_err-needed.ensures
    (λ fault h. rw h refl)

pub returns-in_err-secret : goal.returns-in_err-secret
unfolding secret_of
returns-in_err-secret c =
    stops c.from_residual-in_err-secret.result c.in_err-secret.field-0.0 _ (secret_of (place_of c.args.body.now)) c.from_residual-in_err-secret.ensures.1 c.in_err-secret.ensures
    (λ fault h. rw (c.in_ok-needed.ensures, h) refl)

pub returns-in_err-user : goal.returns-in_err-user
unfolding secret_of
returns-in_err-user c =
    stops c.from_residual-in_err-user.result c.in_err-user.field-0.0 _ (secret_of (place_of c.args.body.now)) c.from_residual-in_err-user.ensures.1 c.in_err-user.ensures
    (λ fault h. rw (c.in_ok-needed.ensures, c.in_ok-secret.ensures, h) refl)

pub returns : goal.returns
unfolding secret_of
returns c = rw (c.in_ok-needed.ensures, c.in_ok-secret.ensures, c.in_ok-user.ensures) refl
