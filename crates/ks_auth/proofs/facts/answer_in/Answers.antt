use Rattle.std.proofs.Common.{Some, sym, ap, ◌∙◌}
use Rattle.ks_auth.proofs.FactLemmas.{answer_is}
use Rattle.ks_auth.proofs.facts.answer_in.Goals as goal

pub returns-then-is_of : goal.returns-then-is_of
returns-then-is_of c =
    ap Some c.answer.ensures
    ∙ answer_is c.args.held.now c.args.text.now c.args.facts.now c.loop-fact.fact-index c.fact-item.result c.loop-fact-test.true c.fact-item.is
    (sym c.is_of.ensures ∙ c.if-is_of.true) c.loop-fact.invariant
