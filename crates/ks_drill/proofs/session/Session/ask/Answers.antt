use Rattle.std.proofs.Common.{sym, ◌∙◌}
use Rattle.ks_drill.proofs.AloneLemmas.{told_is}
use Rattle.ks_drill.proofs.session.Session.ask.Goals as goal

pub returns-clause-told : goal.returns-clause-told
returns-clause-told g c =
    told_is c.self.inside.pass c.call-pass.result.0 c.call-call.result c.call-pass.result.1 c.call-pass.ensures.called c.self.invariant.1
    (sym c.is_memory.ensures ∙ c.if-is_memory.false) c.self.inside.calls c.args.command c.args.caller c.args.subject c.args.self (sym c.self.view_is)
    c.call-call.ensures.made
