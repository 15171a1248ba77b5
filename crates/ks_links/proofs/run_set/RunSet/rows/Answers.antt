use Rattle.std.proofs.Common.{subst}
use Rattle.ks_base.specs.Tables.{IsAscending}
use Rattle.ks_links.proofs.PutLemmas.{rows_ascend, runs_some}
use Rattle.ks_links.proofs.RunSetLemmas.{laws_of}
use Rattle.ks_links.proofs.run_set.RunSet.rows.Goals as goal

pub new-requires-clause-some : goal.new-requires-clause-some
new-requires-clause-some g c =
    let laws = laws_of g.met.R.Ordered.total g.met.R.Ordered.exact g.met.R.InRuns.runs_total g.met.R.InRuns.runs_first in
    runs_some g.R.Ordered.cmp g.R.InRuns.runs laws c.self.inside.runs.items c.self.invariant.0

pub returns-clause-ascending : goal.returns-clause-ascending
returns-clause-ascending g c =
    let laws = laws_of g.met.R.Ordered.total g.met.R.Ordered.exact g.met.R.InRuns.runs_total g.met.R.InRuns.runs_first in
    subst (IsAscending g.R.Ordered.cmp (λ next. next)) c.self.view_is (rows_ascend g.R.Ordered.cmp g.R.InRuns.runs laws c.self.inside.runs.items c.self.invariant.0)
