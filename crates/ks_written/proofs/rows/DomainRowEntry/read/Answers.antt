-- One line for each exit: the fields before it were read, and it stops the entry at its fault.
use Rattle.std.proofs.Common.{refl}
use Rattle.ks_shape.specs.Places.{place_of}
use Rattle.ks_shape.proofs.RefusalLemmas.{stops}
use Rattle.ks_written.specs.Written.{domain_in}
use Rattle.ks_written.proofs.rows.DomainRowEntry.read.Goals as goal

pub returns-in_err-description : goal.returns-in_err-description
unfolding domain_in
returns-in_err-description c =
    stops c.from_residual-in_err-description.result c.in_err-description.field-0.0 _ (domain_in (place_of c.args.entry.now))
    c.from_residual-in_err-description.ensures.1 c.in_err-description.ensures
    (λ fault h. rw (c.in_ok-id.ensures, c.in_ok-name.ensures, h) refl)

pub returns-in_err-enabled : goal.returns-in_err-enabled
unfolding domain_in
returns-in_err-enabled c =
    stops c.from_residual-in_err-enabled.result c.in_err-enabled.field-0.0 _ (domain_in (place_of c.args.entry.now))
    c.from_residual-in_err-enabled.ensures.1 c.in_err-enabled.ensures
    (λ fault h. rw (c.in_ok-id.ensures, c.in_ok-name.ensures, c.in_ok-description.ensures, h) refl)

pub returns : goal.returns
unfolding domain_in
returns c =
    rw (c.in_ok-id.ensures, c.in_ok-name.ensures, c.in_ok-description.ensures, c.in_ok-enabled.ensures)
    (rw (c.in_ok-text_or.ensures, c.unwrap_or.ensures, c.name.view_is) refl)
