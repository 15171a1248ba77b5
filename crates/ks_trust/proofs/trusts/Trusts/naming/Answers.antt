use Rattle.std.proofs.Common.{◌∙◌}
use Rattle.ks_trust.proofs.FoundTrusts.{none_named}
use Rattle.ks_trust.proofs.trusts.Trusts.naming.Goals as goal

pub returns-in-Audit : goal.returns-in-Audit
returns-in-Audit c = c.new.ensures.items ∙ none_named c.args.what.now c.args.self.now c.in-Audit.is
