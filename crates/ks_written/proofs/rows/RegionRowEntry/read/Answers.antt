-- One line for each exit: the fields before it were read, and it stops the entry at its fault.
use Rattle.std.proofs.Common.{refl}
use Rattle.ks_shape.specs.Places.{place_of}
use Rattle.ks_shape.proofs.RefusalLemmas.{stops}
use Rattle.ks_written.specs.Written.{region_in}
use Rattle.ks_written.proofs.rows.RegionRowEntry.read.Goals as goal

pub returns-in_err-parent : goal.returns-in_err-parent
unfolding region_in
returns-in_err-parent c =
    stops c.from_residual-in_err-parent.result c.in_err-parent.field-0.0 _ (region_in (place_of c.args.entry.now))
    c.from_residual-in_err-parent.ensures.1 c.in_err-parent.ensures
    (λ fault h. rw (c.in_ok-id.ensures, h) refl)

pub returns-in_err-description : goal.returns-in_err-description
unfolding region_in
returns-in_err-description c =
    stops c.from_residual-in_err-description.result c.in_err-description.field-0.0 _ (region_in (place_of c.args.entry.now))
    c.from_residual-in_err-description.ensures.1 c.in_err-description.ensures
    (λ fault h. rw (c.in_ok-id.ensures, c.in_ok-parent.ensures, h) refl)

pub returns : goal.returns
unfolding region_in
returns c = rw (c.in_ok-id.ensures, c.in_ok-parent.ensures, c.in_ok-description.ensures) (rw c.in_ok-text_or.ensures refl)
