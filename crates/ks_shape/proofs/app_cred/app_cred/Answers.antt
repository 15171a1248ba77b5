-- One line for each exit: the fields before it were read, and it stops the form at its fault.
use Rattle.std.proofs.Common.{refl}
use Rattle.ks_shape.specs.AppCreds.{app_cred_of}
use Rattle.ks_shape.specs.Places.{place_of}
use Rattle.ks_shape.proofs.RefusalLemmas.{stops}
use Rattle.ks_shape.proofs.app_cred.app_cred.Goals as goal

pub returns-in_err-name : goal.returns-in_err-name
unfolding app_cred_of
returns-in_err-name c =
    stops c.from_residual.result c.in_err-name.field-0.0 _ (app_cred_of (place_of c.args.body.now)) c.from_residual.ensures.1 c.in_err-name.ensures
    (λ fault h. rw h refl)

pub returns-in_err-secret : goal.returns-in_err-secret
unfolding app_cred_of
returns-in_err-secret c =
    stops c.from_residual-in_err-secret.result c.in_err-secret.field-0.0 _ (app_cred_of (place_of c.args.body.now)) c.from_residual-in_err-secret.ensures.1 c.in_err-secret.ensures
    (λ fault h. rw (c.in_ok-name.ensures, h) refl)

pub returns-in_err-description : goal.returns-in_err-description
unfolding app_cred_of
returns-in_err-description c =
    stops c.from_residual-in_err-description.result c.in_err-description.field-0.0 _ (app_cred_of (place_of c.args.body.now)) c.from_residual-in_err-description.ensures.1 c.in_err-description.ensures
    (λ fault h. rw (c.in_ok-name.ensures, c.in_ok-secret.ensures, h) refl)

pub returns-in_err-expires : goal.returns-in_err-expires
unfolding app_cred_of
returns-in_err-expires c =
    stops c.from_residual-in_err-expires.result c.in_err-expires.field-0.0 _ (app_cred_of (place_of c.args.body.now)) c.from_residual-in_err-expires.ensures.1 c.in_err-expires.ensures
    (λ fault h. rw (c.in_ok-name.ensures, c.in_ok-secret.ensures, c.in_ok-description.ensures, h) refl)

pub returns-in_err-roles : goal.returns-in_err-roles
unfolding app_cred_of
returns-in_err-roles c =
    stops c.from_residual-in_err-roles.result c.in_err-roles.field-0.0 _ (app_cred_of (place_of c.args.body.now)) c.from_residual-in_err-roles.ensures.1 c.in_err-roles.ensures
    (λ fault h. rw (c.in_ok-name.ensures, c.in_ok-secret.ensures, c.in_ok-description.ensures, c.in_ok-expires.ensures, h) refl)

pub returns-in_err-unrestricted : goal.returns-in_err-unrestricted
unfolding app_cred_of
returns-in_err-unrestricted c =
    stops c.from_residual-in_err-unrestricted.result c.in_err-unrestricted.field-0.0 _ (app_cred_of (place_of c.args.body.now)) c.from_residual-in_err-unrestricted.ensures.1 c.in_err-unrestricted.ensures
    (λ fault h. rw (c.in_ok-name.ensures, c.in_ok-secret.ensures, c.in_ok-description.ensures, c.in_ok-expires.ensures, c.in_ok-roles.ensures, h) refl)

pub returns-in_err-_no_rules : goal.returns-in_err-_no_rules
unfolding app_cred_of
returns-in_err-_no_rules c =
    stops c.from_residual-in_err-_no_rules.result c.in_err-_no_rules.field-0.0 _ (app_cred_of (place_of c.args.body.now)) c.from_residual-in_err-_no_rules.ensures.1 c.in_err-_no_rules.ensures
    (λ fault h. rw (c.in_ok-name.ensures, c.in_ok-secret.ensures, c.in_ok-description.ensures, c.in_ok-expires.ensures, c.in_ok-roles.ensures, c.in_ok-unrestricted.ensures, h) refl)

pub returns : goal.returns
unfolding app_cred_of
returns c =
    rw (
      c.in_ok-name.ensures,
      c.in_ok-secret.ensures,
      c.in_ok-description.ensures,
      c.in_ok-expires.ensures,
      c.in_ok-roles.ensures,
      c.in_ok-unrestricted.ensures,
      c.in_ok-_no_rules.ensures,
    )
    (rw (← c.unwrap_or.ensures, c.in_ok-description-2.ensures) refl)
