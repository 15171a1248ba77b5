use Rattle.std.proofs.Common.{inr, sym, ◌∙◌}
use Rattle.ks_opening.proofs.IndexLemmas.{built_all, built_end, built_fault, built_more, built_none}
use Rattle.ks_opening.proofs.index.Index.new.Goals as goal

pub loop-at-init : goal.loop-at-init
loop-at-init g c = built_none c.args.kind g.R.Row.key c.args.rows.now c.new-places.result c.new-places.ensures.empty

pub loop-at-preserved : goal.loop-at-preserved
loop-at-preserved g c =
    built_more c.args.kind g.R.Row.key c.args.rows.now c.loop-at.places c.insert.new.self c.loop-at.at c.index-rows-at.result c.id.result.now c.in-Ok.earlier
    c.loop-at-test.true c.index-rows-at.is c.id.ensures c.in-Ok.ensures.old c.in-Ok.ensures.updates (sym c.is_some.ensures ∙ c.if-is_some.false) c.loop-at.invariant

pub returns-then-is_some-clause-tells : goal.returns-then-is_some-clause-tells
returns-then-is_some-clause-tells g c =
    inr (built_fault c.args.kind g.R.Row.key c.args.rows.now c.loop-at.places c.loop-at.at c.index-rows-at.result c.id.result.now c.id-then-is_some.result.now
    c.in-Ok.earlier c.loop-at-test.true c.index-rows-at.is c.id.ensures c.id-then-is_some.ensures c.in-Ok.ensures.old (sym c.is_some.ensures ∙ c.if-is_some.true) c.loop-at.invariant)

pub returns-clause-tells : goal.returns-clause-tells
returns-clause-tells g c = built_end c.args.kind g.R.Row.key c.args.rows.now c.loop-at.places c.loop-at.at c.loop-at-test.false c.loop-at.invariant

pub invariant_of-result : goal.invariant_of-result
invariant_of-result g c = built_all c.args.kind g.R.Row.key c.args.rows.now c.loop-at.places c.loop-at.at c.loop-at-test.false c.loop-at.invariant
