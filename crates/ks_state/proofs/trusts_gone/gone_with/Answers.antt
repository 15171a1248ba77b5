use Rattle.ks_state.proofs.TrustLemmas.{left_is}
use Rattle.ks_state.proofs.trusts_gone.gone_with.Goals as goal

pub returns-clause-left : goal.returns-clause-left
returns-clause-left g c =
    left_is c.args.trusts.now (g.T.Touches.touches c.args.change.now) c.in_ok-touched.touched c.with_children.result c.rows-in_order.ensures.ascending
    c.in_ok-touched.ensures.ids c.with_children.ensures.ids
