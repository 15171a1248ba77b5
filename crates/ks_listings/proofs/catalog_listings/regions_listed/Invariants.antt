use Rattle.std.proofs.Common.{◌≡◌, ◌++◌, map, filter, drop}
use Rattle.ks_base.specs.CatalogLists.{is_region_listed}
use Rattle.ks_machine.specs.declared.body_out.Row.TheVariants as row
use Rattle.ks_listings.proofs.catalog_listings.regions_listed.Given as goal

abbrev pub invariant-loop-row : goal.invariant-loop-row
invariant-loop-row l =
    l.listed ++ map (λ found. row.Region found) (filter (is_region_listed l.filters.fields) (drop l.row-index l.rows))
    ≡ map (λ found. row.Region found) (filter (is_region_listed l.filters.fields) l.rows)
