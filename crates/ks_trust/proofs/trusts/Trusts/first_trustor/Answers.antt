use Rattle.ks_trust.proofs.WalkSteps.{leads_of}
use Rattle.ks_trust.proofs.trusts.Trusts.first_trustor.Goals as goal

pub returns-clause-leads : goal.returns-clause-leads
returns-clause-leads c =
    leads_of c.args.self.now c.args.id.now c.in_ok-trust.trust.now c.top_trustor.result c.in_ok-trust.ensures.chained c.in_ok-trust.ensures.found c.top_trustor.ensures
