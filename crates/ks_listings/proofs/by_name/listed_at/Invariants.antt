-- The rows of the name that are listed so far, and those that are left.
use Rattle.std.proofs.Common.{◌≡◌, ◌++◌, map, filter, drop}
use Rattle.ks_base.specs.Rows.{same}
use Rattle.ks_listings.proofs.by_name.listed_at.Given as goal

abbrev pub invariant-loop-id : goal.invariant-loop-id
invariant-loop-id g l =
    l.listed ++ map g.R.Listed.told (filter (g.R.Listed.agrees l.fields) (drop l.id-index (filter (λ row. same (g.R.Named.naming row) l.name) (g.S.Shelf.rows l.shelf))))
    ≡ map g.R.Listed.told (filter (g.R.Listed.agrees l.fields) (filter (λ row. same (g.R.Named.naming row) l.name) (g.S.Shelf.rows l.shelf)))
