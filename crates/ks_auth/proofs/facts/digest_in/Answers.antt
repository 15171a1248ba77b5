use Rattle.std.proofs.Common.{Some, sym, ap, ◌∙◌}
use Rattle.ks_auth.proofs.FactLemmas.{digest_is}
use Rattle.ks_auth.proofs.facts.digest_in.Goals as goal

pub returns-then-is_derived : goal.returns-then-is_derived
returns-then-is_derived c =
    ap Some (c.digest.ensures.digest ∙ c.digest.ensures.derived)
    ∙ digest_is c.args.password.now c.args.salt.now c.args.rounds c.args.facts.now c.loop-fact.fact-index c.fact-item.result c.loop-fact-test.true c.fact-item.is
    (sym c.is_derived.ensures ∙ c.if-is_derived.true) c.loop-fact.invariant
