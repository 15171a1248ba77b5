-- One line for each exit: the fields before it were read, and it stops the form at its fault.
use Rattle.std.proofs.Common.{refl}
use Rattle.ks_shape.specs.Trusts.{limits_asked}
use Rattle.ks_shape.specs.Places.{place_of}
use Rattle.ks_shape.proofs.RefusalLemmas.{stops}
use Rattle.ks_shape.proofs.trust.limits_asked.Goals as goal

pub returns-in_err-expires : goal.returns-in_err-expires
unfolding limits_asked
returns-in_err-expires c =
    stops c.from_residual.result c.in_err-expires.field-0.0 _ (limits_asked (place_of c.args.body.now)) c.from_residual.ensures.1 c.in_err-expires.ensures
    (λ fault h. rw h refl)

pub returns-in_err-remaining : goal.returns-in_err-remaining
unfolding limits_asked
returns-in_err-remaining c =
    stops c.from_residual-in_err-remaining.result c.in_err-remaining.field-0.0 _ (limits_asked (place_of c.args.body.now)) c.from_residual-in_err-remaining.ensures.1 c.in_err-remaining.ensures
    (λ fault h. rw (c.in_ok-expires.ensures, h) refl)

pub returns-in_err-redelegate : goal.returns-in_err-redelegate
unfolding limits_asked
returns-in_err-redelegate c =
    stops c.from_residual-in_err-redelegate.result c.in_err-redelegate.field-0.0 _ (limits_asked (place_of c.args.body.now)) c.from_residual-in_err-redelegate.ensures.1 c.in_err-redelegate.ensures
    (λ fault h. rw (c.in_ok-expires.ensures, c.in_ok-remaining.ensures, h) refl)

pub returns-in_err-count : goal.returns-in_err-count
unfolding limits_asked
returns-in_err-count c =
    stops c.from_residual-in_err-count.result c.in_err-count.field-0.0 _ (limits_asked (place_of c.args.body.now)) c.from_residual-in_err-count.ensures.1 c.in_err-count.ensures
    (λ fault h. rw (c.in_ok-expires.ensures, c.in_ok-remaining.ensures, c.in_ok-redelegate.ensures, h) refl)

pub returns-in_err-parent : goal.returns-in_err-parent
unfolding limits_asked
returns-in_err-parent c =
    stops c.from_residual-in_err-parent.result c.in_err-parent.field-0.0 _ (limits_asked (place_of c.args.body.now)) c.from_residual-in_err-parent.ensures.1 c.in_err-parent.ensures
    (λ fault h. rw (c.in_ok-expires.ensures, c.in_ok-remaining.ensures, c.in_ok-redelegate.ensures, c.in_ok-count.ensures, h) refl)

pub returns : goal.returns
unfolding limits_asked
returns c =
    rw (c.in_ok-expires.ensures, c.in_ok-remaining.ensures, c.in_ok-redelegate.ensures, c.in_ok-count.ensures, c.in_ok-parent.ensures)
    (rw (← c.unwrap_or.ensures) refl)
