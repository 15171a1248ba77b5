use Rattle.std.proofs.Common.{◌≡◌, ◌++◌, filter, map}
use Rattle.ks_index.specs.Indexes.{picked}
use Rattle.ks_index.proofs.runs.ids_passing.Given as goal

abbrev pub invariant-loop-row : goal.invariant-loop-row
invariant-loop-row g l =
    l.ids ++ map g.R.Row.key (filter (g.T.Test.test l.test) l.row-iterator) ≡ map g.R.Row.key (filter (g.T.Test.test l.test) (picked l.rows l.places.items))
