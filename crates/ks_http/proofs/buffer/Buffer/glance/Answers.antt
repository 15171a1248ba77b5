use Rattle.std.proofs.Common.{refl}
use Rattle.ks_http.proofs.WaitLemmas.{undecided_more}
use Rattle.ks_http.proofs.buffer.Buffer.glance.Goals as goal

pub returns-clause-glances : goal.returns-clause-glances
returns-clause-glances c =
    let short = c.if-is_worth_a_look.ensures.short refl in
    (λ u. undecided_more c.args.self.now c.args.before short (c.if-is_worth_a_look.ensures.clear refl) u, short)
