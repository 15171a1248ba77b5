use Rattle.std.proofs.Common.{length, sym, ap, subst, arith}
use Rattle.ks_links.specs.RunSets.{AreRuns, all_rows}
use Rattle.ks_links.proofs.run_set.RunSet.new.Goals as goal

pub invariant_of-result : goal.invariant_of-result
unfolding all_rows
invariant_of-result g c =
    let none = ap (λ l. length (all_rows l)) c.new.ensures in
    (subst (AreRuns g.R.Ordered.cmp g.R.InRuns.runs) (sym c.new.ensures) tt, sym none, omega arith)

pub returns : goal.returns
unfolding all_rows
returns g c =
    ap all_rows c.new.ensures
