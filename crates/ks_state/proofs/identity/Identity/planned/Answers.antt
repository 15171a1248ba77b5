use Rattle.std.proofs.Common.{ap}
use Rattle.ks_state.specs.Shown.{Shown}
use Rattle.ks_state.proofs.PlanLemmas.{planned_at}
use Rattle.ks_state.proofs.identity.Identity.planned.Goals as goal

pub returns : goal.returns
returns c = λ f stands.
    let seen = c.tables-seen in
    planned_at c.args.facts.now seen.result c.self.inside.rules c.args.self.now f c.args.call.now c.args.moment c.plan_call.result
    (record { rows = seen.ensures.rows; settings = seen.ensures.settings; ring = seen.ensures.ring; events = seen.ensures.events; high = seen.ensures.high; life = seen.ensures.life })
    (ap (λ (v : Shown). v.state.rules) c.self.view_is) stands c.requires.moment c.plan_call.ensures
