use Rattle.std.proofs.Common.{sym, ◌∙◌}
use Rattle.std.proofs.lemmas.Result.{on_ok_weaker}
use Rattle.ks_service.proofs.FactLemmas.{derived_for, derived_now, found_derived}
use Rattle.ks_service.proofs.work.derive.Goals as goal

pub returns-then-is_some-clause-derived : goal.returns-then-is_some-clause-derived
returns-then-is_some-clause-derived g c =
    derived_for c.args.asked c.args.password c.in-Some.by c.in-Some-password.password c.args.facts.now c.in-Some.is c.in-Some-password.is
    (found_derived c.args.facts.now c.in-Some-password.password.now c.in-Some.by.now.0 c.in-Some.by.now.1 c.derived.result (sym c.is_some.ensures ∙ c.if-is_some.true) c.derived.ensures)

pub returns-clause-derived : goal.returns-clause-derived
returns-clause-derived g c =
    on_ok_weaker c.add_derived.result
    (λ grew. derived_for c.args.asked c.args.password c.in-Some.by c.in-Some-password.password c.add_derived.new.self c.in-Some.is c.in-Some-password.is
    (derived_now c.args.facts.now c.add_derived.new.self c.in-Some-password.password.now _ c.in-Some.by.now.0 _ c.in-Some.by.now.1 c.of.result c.in_ok-copy.ensures c.of.ensures grew))
    c.add_derived.ensures.ok
