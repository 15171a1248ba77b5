use Rattle.std.proofs.Common.{◌≡◌, ◌-◌, suc, arith}
use Rattle.ks_links.proofs.SlotLemmas.{kept_most, kept_start, kept_step}
use Rattle.ks_links.proofs.change.keep.Goals as goal

pub loop-at-init : goal.loop-at-init
loop-at-init g c =
    kept_start (g.T.Test.test c.args.test.now) c.args.runs.now.items c.len-at.result c.len-at.ensures

pub overflow_add-left : goal.overflow_add-left
overflow_add-left g c =
    let next : suc (c.loop-at.at - 1) ≡ c.loop-at.at = omega arith in
    let most = kept_most (g.T.Test.test c.args.test.now) c.args.runs.now.items c.loop-at.at (c.loop-at.at - 1) c.loop-at.runs.items c.loop-at.left c.keep_at-left.result next
    c.loop-at.invariant c.keep_at-left.ensures.left in
    omega (arith, most, c.requires)

pub loop-at-preserved : goal.loop-at-preserved
loop-at-preserved g c =
    let next : suc (c.loop-at.at - 1) ≡ c.loop-at.at = omega arith in
    kept_step (g.T.Test.test c.args.test.now) c.args.runs.now.items c.loop-at.at (c.loop-at.at - 1) c.loop-at.runs.items c.keep_at-left.new.runs.items c.loop-at.left
    c.keep_at-left.result next c.loop-at.invariant c.keep_at-left.ensures.rows c.keep_at-left.ensures.left
