-- The order of grants as their targets see them.
use Rattle.std.specs.declared.cmp.Ordering.{Ordering}
use Rattle.std.specs.Ordering.{then_cmp, on}
use Rattle.ks_base.specs.Orders.{grant_cmp, target_cmp}
use Rattle.ks_assign.specs.declared.by_target.ByTarget.{ByTarget}

-- | by target, then as all grants: the order of grants as their targets see them
abbrev pub by_target_cmp : ByTarget → ByTarget → Ordering
by_target_cmp = then_cmp (on (λ side. side.row.target) target_cmp) (on (λ side. side.row) grant_cmp)
