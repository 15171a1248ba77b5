use Rattle.std.proofs.Common.{◌≡◌, map, not, vec_len}
use Rattle.std.specs.Arc.{arc_value}
use Rattle.std.specs.List.{filter}
use Rattle.ks_appcred.specs.Orders.{AreNamed}
use Rattle.ks_base.specs.Rows.{same}
use Rattle.ks_appcred.proofs.orders.drop_run.Given as goal

abbrev pub invariant-loop-id : goal.invariant-loop-id
invariant-loop-id g l = record {
  both : AreNamed g.R.Named.within g.R.Named.naming g.R.Row.key (map arc_value l.rows.items) (map arc_value l.names.items);
  left : filter (λ row. not (same (g.R.Named.within row) l.home)) (map arc_value l.rows.items) ≡ filter (λ row. not (same (g.R.Named.within row) l.home)) (map arc_value l.initial.rows.items);
}

abbrev pub decreases-loop-id : goal.decreases-loop-id
decreases-loop-id g l = vec_len l.rows
