use Rattle.std.proofs.Common.{inr, sym, ◌∙◌}
use Rattle.ks_opening.proofs.NameLemmas.{named_end, named_fault, named_more}
use Rattle.ks_opening.proofs.names.check_names_of.Goals as goal

pub returns-in-Some : goal.returns-in-Some
returns-in-Some g c =
    inr (named_fault c.args.kind g.R.Row.key g.R.Named.within g.R.Named.naming c.args.rows.now c.loop-row.named c.loop-row.row-index c.row-item.result
    (c.home.result, c.as_slice.result) c.in-Some.id c.loop-row-test.true c.row-item.is c.home.ensures (c.as_slice.ensures.bytes ∙ c.name.ensures) (sym c.in-Some.is ∙ c.in-Ok.ensures.old)
    c.loop-row.invariant)

pub loop-row-preserved : goal.loop-row-preserved
loop-row-preserved g c =
    named_more c.args.kind g.R.Row.key g.R.Named.within g.R.Named.naming c.args.rows.now c.loop-row.named c.insert.new.self c.loop-row.row-index c.row-item.result
    (c.home.result, c.as_slice.result) c.id.result.now c.loop-row-test.true c.row-item.is c.home.ensures (c.as_slice.ensures.bytes ∙ c.name.ensures) c.id.ensures
    (sym c.in_default-earlier.is ∙ c.in-Ok.ensures.old) c.in-Ok.ensures.updates c.loop-row.invariant

pub returns : goal.returns
returns g c =
    named_end c.args.kind g.R.Row.key g.R.Named.within g.R.Named.naming c.args.rows.now c.loop-row.named c.loop-row.row-index c.loop-row-test.false
    c.loop-row.invariant
