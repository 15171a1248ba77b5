use Rattle.std.proofs.Common.{refl}
use Rattle.ks_shape.specs.Catalog.{endpoint_of}
use Rattle.ks_shape.proofs.catalog.endpoint.Goals as goal

pub returns : goal.returns
unfolding endpoint_of
returns c =
    rw (c.in_ok-service.ensures, c.in_ok-interface.ensures, c.in_ok-url.ensures, c.in_ok-region.ensures, c.in_ok-enabled.ensures, c.in_ok-id.ensures, c.unsaid.ensures) refl
