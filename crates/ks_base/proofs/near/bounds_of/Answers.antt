use Rattle.std.proofs.Common.{◌-◌, ◌≤◌, arith, rules}
use Rattle.std.proofs.lemmas.List.Sorted.{IsPartitionPoint-from_clause}
use Rattle.std.specs.Ordering.{is_lt, is_le}
use Rattle.ks_base.proofs.RunLemmas.{parted_before, parted_within, in_order, run_is, others_are}
use Rattle.ks_base.proofs.near.bounds_of.Goals as goal

pub returns-clause-order : goal.returns-clause-order
returns-clause-order g c =
    let side = g.W.Near.side c.args.near.now in
    let rows = c.args.rows.now in
    let run = g.met.W.Near.run c.args.near.now in
    let low = IsPartitionPoint-from_clause (λ row. is_lt (side row)) rows _ c.partition_point-low.ensures.partitioned (parted_before g.R.Ordered.cmp side run rows c.requires) (λ a r f called. (search rules, search rules)) in
    let high = IsPartitionPoint-from_clause (λ row. is_le (side row)) rows _ c.partition_point-high.ensures.partitioned (parted_within g.R.Ordered.cmp side run rows c.requires) (λ a r f called. (search rules, search rules)) in
    in_order side rows c.partition_point-low.result c.partition_point-high.result c.partition_point-low.ensures.bound (λ k d lt. low.0 k d (omega arith) lt) (λ k d le lt. high.1 k d le lt)

pub returns-clause-run : goal.returns-clause-run
returns-clause-run g c =
    let side = g.W.Near.side c.args.near.now in
    let rows = c.args.rows.now in
    let run = g.met.W.Near.run c.args.near.now in
    let first = c.partition_point-low.result in
    let end = c.partition_point-high.result in
    let low = IsPartitionPoint-from_clause (λ row. is_lt (side row)) rows _ c.partition_point-low.ensures.partitioned (parted_before g.R.Ordered.cmp side run rows c.requires) (λ a r f called. (search rules, search rules)) in
    let high = IsPartitionPoint-from_clause (λ row. is_le (side row)) rows _ c.partition_point-high.ensures.partitioned (parted_within g.R.Ordered.cmp side run rows c.requires) (λ a r f called. (search rules, search rules)) in
    let ordered : first ≤ end = returns-clause-order g c in
    let fits = c.partition_point-high.ensures.bound in
    run_is side rows first (end - first) (omega (arith, ordered, fits)) (λ k d lt. low.0 k d (omega arith) lt) (λ k d le lt. low.1 k d le lt)
    (λ k d lt. high.0 k d (omega arith) (omega (arith, ordered))) (λ k d le lt. high.1 k d (omega (arith, ordered)) lt)

pub returns-clause-others : goal.returns-clause-others
returns-clause-others g c =
    let side = g.W.Near.side c.args.near.now in
    let rows = c.args.rows.now in
    let run = g.met.W.Near.run c.args.near.now in
    let first = c.partition_point-low.result in
    let end = c.partition_point-high.result in
    let low = IsPartitionPoint-from_clause (λ row. is_lt (side row)) rows _ c.partition_point-low.ensures.partitioned (parted_before g.R.Ordered.cmp side run rows c.requires) (λ a r f called. (search rules, search rules)) in
    let high = IsPartitionPoint-from_clause (λ row. is_le (side row)) rows _ c.partition_point-high.ensures.partitioned (parted_within g.R.Ordered.cmp side run rows c.requires) (λ a r f called. (search rules, search rules)) in
    let ordered : first ≤ end = returns-clause-order g c in
    let fits = c.partition_point-high.ensures.bound in
    others_are side rows first end ordered fits (λ k d lt. low.0 k d (omega arith) lt) (λ k d le lt. low.1 k d le lt)
    (λ k d lt. high.0 k d (omega arith) lt) (λ k d le lt. high.1 k d le lt)
