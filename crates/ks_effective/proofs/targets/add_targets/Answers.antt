use Rattle.std.proofs.Common.{ap, ◌∙◌}
use Rattle.ks_base.specs.declared.grants.GrantRow.{GrantRow}
use Rattle.ks_base.specs.Orders.{target_cmp}
use Rattle.ks_base.specs.Tables.{put_row}
use Rattle.ks_effective.specs.Targets.{with_targets}
use Rattle.ks_effective.proofs.PlaceLemmas.{next_put}
use Rattle.ks_effective.proofs.targets.add_targets.Goals as goal

pub loop-row-preserved : goal.loop-row-preserved
loop-row-preserved c =
    next_put c.args.rows.now c.loop-row.row-index c.row-item.result c.loop-row.places c.add.new.self (with_targets c.args.rows.now c.args.places.now)
    c.loop-row-test.true c.row-item.is (c.in_ok-_new.ensures.ok.0 ∙ ap (λ (row : GrantRow). put_row target_cmp (λ next. next) row.target c.loop-row.places) c.get.ensures)
    c.loop-row.invariant
