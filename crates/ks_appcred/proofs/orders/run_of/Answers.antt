use Rattle.std.proofs.Common.{◌-◌, ◌≤◌, ◌∙◌, ap, map, arith, rules}
use Rattle.std.proofs.lemmas.List.Sorted.{IsPartitionPoint-from_clause}
use Rattle.std.specs.Arc.{arc_value}
use Rattle.std.specs.Ordering.{is_lt, is_le}
use Rattle.ks_appcred.proofs.RunLemmas.{home_run, run_mapped, shared_ascend, shared_cmp}
use Rattle.ks_base.specs.Tables.{id_cmp}
use Rattle.ks_base.proofs.RunLemmas.{in_order, parted_before, parted_within, run_is}
use Rattle.ks_appcred.proofs.orders.run_of.Goals as goal

pub slice_bounds-result-count : goal.slice_bounds-result-count
slice_bounds-result-count g c =
    let names = c.args.names.now in
    let home = g.R.Named.within in
    let naming = g.R.Named.naming in
    let cmp = shared_cmp arc_value home naming in
    let side = λ (row : _). id_cmp (home (arc_value row)) c.args.home.now in
    let run = home_run arc_value home naming c.args.home.now in
    let up = shared_ascend arc_value home naming names c.requires in
    let low = IsPartitionPoint-from_clause (λ row. is_lt (side row)) names _ c.partition_point-low.ensures.partitioned (parted_before cmp side run names up) (λ a r f called. (search rules, search rules)) in
    let high = IsPartitionPoint-from_clause (λ row. is_le (side row)) names _ c.partition_point-high.ensures.partitioned (parted_within cmp side run names up) (λ a r f called. (search rules, search rules)) in
    in_order side names c.partition_point-low.result c.partition_point-high.result c.partition_point-low.ensures.bound (λ k d lt. low.0 k d (omega arith) lt) (λ k d le lt. high.1 k d le lt)

pub slice_bounds-result-start : goal.slice_bounds-result-start
slice_bounds-result-start g c =
    let names = c.args.names.now in
    let home = g.R.Named.within in
    let naming = g.R.Named.naming in
    let cmp = shared_cmp arc_value home naming in
    let side = λ (row : _). id_cmp (home (arc_value row)) c.args.home.now in
    let run = home_run arc_value home naming c.args.home.now in
    let up = shared_ascend arc_value home naming names c.requires in
    let low = IsPartitionPoint-from_clause (λ row. is_lt (side row)) names _ c.partition_point-low.ensures.partitioned (parted_before cmp side run names up) (λ a r f called. (search rules, search rules)) in
    let high = IsPartitionPoint-from_clause (λ row. is_le (side row)) names _ c.partition_point-high.ensures.partitioned (parted_within cmp side run names up) (λ a r f called. (search rules, search rules)) in
    in_order side names c.partition_point-low.result c.partition_point-high.result c.partition_point-low.ensures.bound (λ k d lt. low.0 k d (omega arith) lt) (λ k d le lt. high.1 k d le lt)

pub returns : goal.returns
returns g c =
    let names = c.args.names.now in
    let home = g.R.Named.within in
    let naming = g.R.Named.naming in
    let cmp = shared_cmp arc_value home naming in
    let side = λ (row : _). id_cmp (home (arc_value row)) c.args.home.now in
    let run = home_run arc_value home naming c.args.home.now in
    let up = shared_ascend arc_value home naming names c.requires in
    let low = IsPartitionPoint-from_clause (λ row. is_lt (side row)) names _ c.partition_point-low.ensures.partitioned (parted_before cmp side run names up) (λ a r f called. (search rules, search rules)) in
    let high = IsPartitionPoint-from_clause (λ row. is_le (side row)) names _ c.partition_point-high.ensures.partitioned (parted_within cmp side run names up) (λ a r f called. (search rules, search rules)) in
    let first = c.partition_point-low.result in
    let end = c.partition_point-high.result in
    let ordered : first ≤ end = in_order side names first end c.partition_point-low.ensures.bound (λ k d lt. low.0 k d (omega arith) lt) (λ k d le lt. high.1 k d le lt) in
    let fits = c.partition_point-high.ensures.bound in
    ap (map arc_value) (run_is side names first (end - first) (omega (arith, ordered, fits)) (λ k d lt. low.0 k d (omega arith) lt) (λ k d le lt. low.1 k d le lt)
    (λ k d lt. high.0 k d (omega arith) (omega (arith, ordered))) (λ k d le lt. high.1 k d (omega (arith, ordered)) lt))
    ∙ run_mapped arc_value home c.args.home.now names
