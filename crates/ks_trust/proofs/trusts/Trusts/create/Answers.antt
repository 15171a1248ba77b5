use Rattle.std.proofs.Common.{sym}
use Rattle.ks_base.proofs.TrustLemmas.{made_chained, made_new}
use Rattle.ks_trust.proofs.trusts.Trusts.create.Goals as goal

pub add-requires-clause-new : goal.add-requires-clause-new
add-requires-clause-new c = made_new c.args.self.now c.args.held.now c.args.moment c.args.row (sym c.in_ok-may_create.ensures)

pub add-requires-clause-chained : goal.add-requires-clause-chained
add-requires-clause-chained c = made_chained c.args.self.now c.args.held.now c.args.moment c.args.row c.requires (sym c.in_ok-may_create.ensures)
