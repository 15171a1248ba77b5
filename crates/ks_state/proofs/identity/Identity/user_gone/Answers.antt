use Rattle.std.proofs.Common.{List, ◌++◌, ap, ◌∙◌}
use Rattle.ks_base.specs.declared.events.Revoke.{Revoke}
use Rattle.ks_base.specs.declared.events.Revoke.TheVariants as revoke
use Rattle.ks_base.specs.Trusts.{names_trust}
use Rattle.ks_machine.specs.declared.change.Change.TheVariants as change
use Rattle.ks_machine.specs.Changes.{effect, user_dropped, trusts_ended}
use Rattle.ks_state.specs.Shown.{Shown}
use Rattle.ks_state.proofs.TrustLemmas.{closed_as, left_as, things_as}
use Rattle.ks_state.proofs.identity.Identity.user_gone.Goals as goal

pub returns-clause-things : goal.returns-clause-things
unfolding effect
returns-clause-things c =
    things_as c.trusts_gone.result _ _
    (ap (λ (l : List Revoke). l ++ trusts_ended c.self.inside.trusts (names_trust (revoke.User c.args.id.now))) c.in_ok-first.ensures
    ∙ ap (λ (v : Shown). (effect v.state (change.DropUser c.args.id.now)).ended) c.self.view_is)
    c.trusts_gone.ensures.things

pub returns-clause-closed : goal.returns-clause-closed
returns-clause-closed c = closed_as c.trusts_gone.result _ _ (ap (λ (v : Shown). v.state.rows.trusts) c.self.view_is) c.trusts_gone.ensures.closed

pub returns-clause-left : goal.returns-clause-left
unfolding effect user_dropped
returns-clause-left c =
    left_as c.trusts_gone.result _ _ _ _ (ap (λ (v : Shown). v.state.rows.trusts) c.self.view_is)
    (ap {A = Shown} (λ v. (effect v.state (change.DropUser c.args.id.now)).rows.trusts) c.self.view_is) c.trusts_gone.ensures.left
