use Rattle.std.proofs.Common.{subst}
use Rattle.ks_base.specs.Tables.{id_cmp, IsAscending}
use Rattle.ks_index.proofs.PickLemmas.{picked_up}
use Rattle.ks_index.proofs.table.Table.rows.Goals as goal

pub returns-clause-ascending : goal.returns-clause-ascending
returns-clause-ascending g c = subst (IsAscending id_cmp g.R.Row.key) c.self.view_is (picked_up id_cmp g.R.Row.key c.self.inside.rows.items c.self.inside.ids.items c.self.invariant.0)
