use Rattle.ks_trust.proofs.SideLemmas.{all_more, grown_at}
use Rattle.ks_trust.proofs.sides.put_each.Goals as goal

pub loop-side-preserved : goal.loop-side-preserved
loop-side-preserved c = (
  grown_at c.args.sides.now c.args.index.now c.loop-side.index c.add.new.self c.loop-side.side-index c.side-item.result c.loop-side-test.true c.side-item.is c.in_ok-add.ensures.ok.0
      c.loop-side.invariant.0,
  all_more c.args.sides.now c.loop-side.index c.add.new.self c.loop-side.side-index c.side-item.result c.loop-side-test.true c.side-item.is c.in_ok-add.ensures.ok.0
      c.loop-side.invariant.1,
)
