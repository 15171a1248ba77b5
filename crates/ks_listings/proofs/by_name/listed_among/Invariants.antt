use Rattle.std.proofs.Common.{◌≡◌, ◌++◌, map, filter}
use Rattle.ks_listings.proofs.by_name.listed_among.Given as goal

abbrev pub invariant-loop-row : goal.invariant-loop-row
invariant-loop-row g l =
    l.listed ++ map g.R.Listed.told (filter (g.R.Listed.agrees l.fields) l.row-iterator) ≡ map g.R.Listed.told (filter (g.R.Listed.agrees l.fields) l.fn.rows)
