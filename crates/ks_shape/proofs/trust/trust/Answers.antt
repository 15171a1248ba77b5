-- One line for each exit: the fields before it were read, and it stops the form at its fault.
use Rattle.std.proofs.Common.{refl}
use Rattle.ks_shape.specs.Trusts.{trust_of}
use Rattle.ks_shape.specs.Places.{place_of}
use Rattle.ks_shape.proofs.RefusalLemmas.{stops}
use Rattle.ks_shape.proofs.trust.trust.Goals as goal

pub returns-in_err-trustor : goal.returns-in_err-trustor
unfolding trust_of
returns-in_err-trustor c =
    stops c.from_residual.result c.in_err-trustor.field-0.0 _ (trust_of (place_of c.args.body.now)) c.from_residual.ensures.1 c.in_err-trustor.ensures
    (λ fault h. rw h refl)

pub returns-in_err-trustee : goal.returns-in_err-trustee
unfolding trust_of
returns-in_err-trustee c =
    stops c.from_residual-in_err-trustee.result c.in_err-trustee.field-0.0 _ (trust_of (place_of c.args.body.now)) c.from_residual-in_err-trustee.ensures.1 c.in_err-trustee.ensures
    (λ fault h. rw (c.in_ok-trustor.ensures, h) refl)

pub returns-in_err-project : goal.returns-in_err-project
unfolding trust_of
returns-in_err-project c =
    stops c.from_residual-in_err-project.result c.in_err-project.field-0.0 _ (trust_of (place_of c.args.body.now)) c.from_residual-in_err-project.ensures.1 c.in_err-project.ensures
    (λ fault h. rw (c.in_ok-trustor.ensures, c.in_ok-trustee.ensures, h) refl)

pub returns-in_err-impersonation : goal.returns-in_err-impersonation
unfolding trust_of
returns-in_err-impersonation c =
    stops c.from_residual-in_err-impersonation.result c.in_err-impersonation.field-0.0 _ (trust_of (place_of c.args.body.now)) c.from_residual-in_err-impersonation.ensures.1 c.in_err-impersonation.ensures
    (λ fault h. rw (c.in_ok-trustor.ensures, c.in_ok-trustee.ensures, c.in_ok-project.ensures, h) refl)

pub returns-in_err-roles : goal.returns-in_err-roles
unfolding trust_of
returns-in_err-roles c =
    stops c.from_residual-in_err-roles.result c.in_err-roles.field-0.0 _ (trust_of (place_of c.args.body.now)) c.from_residual-in_err-roles.ensures.1 c.in_err-roles.ensures
    (λ fault h. rw (c.in_ok-trustor.ensures, c.in_ok-trustee.ensures, c.in_ok-project.ensures, c.in_ok-impersonation.ensures, h) refl)

pub returns-in_err-limits : goal.returns-in_err-limits
unfolding trust_of
returns-in_err-limits c =
    stops c.from_residual-in_err-limits.result c.in_err-limits.field-0.0 _ (trust_of (place_of c.args.body.now)) c.from_residual-in_err-limits.ensures.1 c.in_err-limits.ensures
    (λ fault h. rw (c.in_ok-trustor.ensures, c.in_ok-trustee.ensures, c.in_ok-project.ensures, c.in_ok-impersonation.ensures, c.in_ok-roles.ensures, h) refl)

pub returns : goal.returns
unfolding trust_of
returns c = rw (c.in_ok-trustor.ensures, c.in_ok-trustee.ensures, c.in_ok-project.ensures, c.in_ok-impersonation.ensures, c.in_ok-roles.ensures, c.in_ok-limits.ensures) refl
