use Rattle.std.proofs.Common.{filter, length, sym, ap, subst, ◌∙◌, arith}
use Rattle.ks_base.proofs.ListLemmas.{length_filter}
use Rattle.ks_links.specs.RunSets.{AreRuns, all_rows}
use Rattle.ks_links.proofs.ChangeLemmas.{rows_kept, runs_kept}
use Rattle.ks_links.proofs.RunSetLemmas.{laws_of}
use Rattle.ks_links.proofs.run_set.RunSet.keep.Goals as goal

pub invariant_of-self : goal.invariant_of-self
invariant_of-self g c =
    let laws = laws_of g.met.R.Ordered.total g.met.R.Ordered.exact g.met.R.InRuns.runs_total g.met.R.InRuns.runs_first in
    let test = g.T.Test.test c.args.test.now in
    let sets = c.self.inside.runs.items in
    let told = c.keep-self-inside.ensures in
    let left = ap (λ l. length (all_rows l)) told.rows in
    let same = ap length (rows_kept test sets) in
    let most = length_filter test (all_rows sets) in (
      subst (AreRuns g.R.Ordered.cmp g.R.InRuns.runs) (sym told.rows) (runs_kept g.R.Ordered.cmp g.R.InRuns.runs laws test sets c.self.invariant.0),
      omega (arith, left, told.left),
      omega (arith, same, most, told.left, c.self.invariant.1, c.self.invariant.2),
    )

pub returns : goal.returns
returns g c =
    let test = g.T.Test.test c.args.test.now in
    ap all_rows c.keep-self-inside.ensures.rows ∙ rows_kept test c.self.inside.runs.items ∙ ap (filter test) c.self.view_is
