use Rattle.ks_base.specs.Trusts.{trusts_gone}
use Rattle.ks_state.proofs.TrustLemmas.{told_with}
use Rattle.ks_state.proofs.trusts_gone.trusts_gone.Goals as goal

pub returns-clause-things : goal.returns-clause-things
returns-clause-things g c =
    told_with c.args.first c.in_ok-things.things (trusts_gone c.args.trusts.now (g.T.Touches.touches c.args.change.now)) c.in_ok-ids.ids c.in_ok-things.ensures c.in_ok-ids.ensures.ids
