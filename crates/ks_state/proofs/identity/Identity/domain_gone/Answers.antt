use Rattle.std.proofs.Common.{ap}
use Rattle.ks_machine.specs.declared.change.Change.TheVariants as change
use Rattle.ks_machine.specs.Changes.{domain_dropped, effect}
use Rattle.ks_state.specs.Shown.{Shown}
use Rattle.ks_state.proofs.TrustLemmas.{closed_as, left_as, things_as}
use Rattle.ks_state.proofs.identity.Identity.domain_gone.Goals as goal

pub returns-clause-things : goal.returns-clause-things
unfolding effect
returns-clause-things c =
    things_as c.domain_trusts.result _ _
    (ap (λ (v : Shown). (effect v.state (change.DropDomain c.args.rows.now.domain)).ended) c.self.view_is)
    c.domain_trusts.ensures.things

pub returns-clause-closed : goal.returns-clause-closed
returns-clause-closed c = closed_as c.domain_trusts.result _ _ (ap (λ (v : Shown). v.state.rows.trusts) c.self.view_is) c.domain_trusts.ensures.closed

pub returns-clause-left : goal.returns-clause-left
unfolding effect domain_dropped
returns-clause-left c =
    left_as c.domain_trusts.result _ _ _ _ (ap (λ (v : Shown). v.state.rows.trusts) c.self.view_is)
    (ap {A = Shown} (λ v. (effect v.state (change.DropDomain c.args.rows.now.domain)).rows.trusts) c.self.view_is) c.domain_trusts.ensures.left
