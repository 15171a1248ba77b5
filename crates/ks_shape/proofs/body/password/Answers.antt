-- One line for each exit: the fields before it were read, and it stops the form at its fault.
use Rattle.std.proofs.Common.{refl}
use Rattle.ks_shape.specs.Bodies.{password_of}
use Rattle.ks_shape.specs.Places.{place_of}
use Rattle.ks_shape.proofs.RefusalLemmas.{stops}
use Rattle.ks_shape.proofs.body.password.Goals as goal

pub returns-in_err-original : goal.returns-in_err-original
unfolding password_of
returns-in_err-original c =
    stops c.from_residual.result c.in_err-original.field-0.0 _ (password_of (place_of c.args.body.now)) c.from_residual.ensures.1 c.in_err-original.ensures
    (λ fault h. rw h refl)

pub returns-in_err-password : goal.returns-in_err-password
unfolding password_of
returns-in_err-password c =
    stops c.from_residual-in_err-password.result c.in_err-password.field-0.0 _ (password_of (place_of c.args.body.now)) c.from_residual-in_err-password.ensures.1 c.in_err-password.ensures
    (λ fault h. rw (c.in_ok-original.ensures, h) refl)

pub returns : goal.returns
unfolding password_of
returns c = rw (c.in_ok-original.ensures, c.in_ok-password.ensures) refl
