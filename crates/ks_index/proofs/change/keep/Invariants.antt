use Rattle.std.proofs.Common.{◌≡◌, ◌≤◌, length}
use Rattle.ks_base.specs.Tables.{id_cmp}
use Rattle.ks_index.specs.Indexes.{AreNamesOf, IsIndex, picked}
use Rattle.ks_index.proofs.KeepLemmas.{gone_over}
use Rattle.ks_index.proofs.change.keep.Given as goal

abbrev pub invariant-loop-at : goal.invariant-loop-at
invariant-loop-at g l = record {
  rows : picked l.rows.items l.ids.items ≡ gone_over (g.T.Test.test l.test) (picked l.initial.rows.items l.initial.ids.items) l.at;
  within : l.at ≤ length l.ids.items;
  whole : l.at ≤ length (picked l.initial.rows.items l.initial.ids.items);
  ids : IsIndex id_cmp g.R.Row.key l.rows.items l.ids.items;
  names : AreNamesOf g.R.Named.within g.R.Named.naming g.R.Row.key l.rows.items l.names.items;
}

abbrev pub decreases-loop-at : goal.decreases-loop-at
decreases-loop-at g l = l.at
