use Rattle.ks_links.proofs.SideRunLemmas.{run_place}
use Rattle.ks_links.proofs.sought.place_of_run.Goals as goal

pub returns : goal.returns
returns g c =
    run_place g.R.Ordered.cmp g.R.InRuns.runs
    (record { order = g.met.R.Ordered.total; exact = g.met.R.Ordered.exact; total = g.met.R.InRuns.runs_total; first = g.met.R.InRuns.runs_first })
    (g.W.Near.side c.args.near.now) (record { run = g.met.W.Near.run c.args.near.now; whole = g.met.W.OfRun.whole c.args.near.now; alone = g.met.W.OfRun.alone c.args.near.now })
    c.args.runs.now.items c.search.result c.requires c.search.ensures.bound c.search.ensures.position
