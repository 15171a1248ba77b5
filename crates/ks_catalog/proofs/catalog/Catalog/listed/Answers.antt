use Rattle.std.specs.Prelude.{option_copied}
use Rattle.ks_catalog.specs.ProjectCatalog.{catalog_of}
use Rattle.ks_catalog.proofs.OfferLemmas.{filled_is_out}
use Rattle.ks_catalog.proofs.catalog.Catalog.listed.Goals as goal

pub returns : goal.returns
unfolding catalog_of
returns c =
    rw (c.in_ok-offers.ensures, c.copied.ensures)
    (filled_is_out (option_copied c.args.project) c.args.self.now.endpoints c.args.self.now.services)
