use Rattle.ks_shape.proofs.CatalogLemmas.{catalog_bodies_in_range}
use Rattle.ks_shape.proofs.laws.catalog_bodies_are_in_range.Goals as goal

pub returns : goal.returns
returns c = catalog_bodies_in_range
