use Rattle.std.proofs.Common.{refl}
use Rattle.ks_shape.specs.Catalog.{region_of}
use Rattle.ks_shape.specs.Places.{place_of}
use Rattle.ks_shape.proofs.RefusalLemmas.{stops}
use Rattle.ks_shape.proofs.catalog.region.Goals as goal

pub returns-in_err-description : goal.returns-in_err-description
unfolding region_of
returns-in_err-description c =
    stops c.from_residual-in_err-description.result c.in_err-description.field-0.0 _ (region_of (place_of c.args.body.now)) c.from_residual-in_err-description.ensures.1 c.in_err-description.ensures
    (λ fault h. rw (c.in_ok-id.ensures, h) refl)

pub returns : goal.returns
unfolding region_of
returns c = rw (c.in_ok-id.ensures, c.in_ok-description.ensures, c.in_ok-parent.ensures, c.unsaid.ensures) refl
