use Rattle.std.proofs.Common.{filter, sym, ap, ◌∙◌}
use Rattle.std.specs.Ordering.{is_eq}
use Rattle.ks_links.proofs.SideRunLemmas.{IsSought, rows_of_none, rows_of_run, run_within}
use Rattle.ks_links.proofs.SlotLemmas.{run_at}
use Rattle.ks_links.proofs.RunSetLemmas.{laws_of}
use Rattle.ks_links.proofs.run_set.RunSet.of.Goals as goal

pub index-requires : goal.index-requires
index-requires g c =
    let laws = laws_of g.met.R.Ordered.total g.met.R.Ordered.exact g.met.R.InRuns.runs_total g.met.R.InRuns.runs_first in
    let sought : IsSought g.R.Ordered.cmp g.R.InRuns.runs (g.W.Near.side c.args.near.now) = record { run = g.met.W.Near.run c.args.near.now; whole = g.met.W.OfRun.whole c.args.near.now; alone = g.met.W.OfRun.alone c.args.near.now } in
    let side = g.W.Near.side c.args.near.now in
    let sets = c.self.inside.runs.items in
    run_within side sets c.in-Ok.at c.in-Ok.ensures

pub returns-in-Ok-clause-rows : goal.returns-in-Ok-clause-rows
returns-in-Ok-clause-rows g c =
    let laws = laws_of g.met.R.Ordered.total g.met.R.Ordered.exact g.met.R.InRuns.runs_total g.met.R.InRuns.runs_first in
    let sought : IsSought g.R.Ordered.cmp g.R.InRuns.runs (g.W.Near.side c.args.near.now) = record { run = g.met.W.Near.run c.args.near.now; whole = g.met.W.OfRun.whole c.args.near.now; alone = g.met.W.OfRun.alone c.args.near.now } in
    let side = g.W.Near.side c.args.near.now in
    let sets = c.self.inside.runs.items in
    let run = run_at sets c.in-Ok.at c.index.result.now c.index.ensures (run_within side sets c.in-Ok.at c.in-Ok.ensures) in
    c.rows.ensures.rows ∙ run ∙ sym (rows_of_run g.R.Ordered.cmp g.R.InRuns.runs laws side sought sets c.in-Ok.at c.self.invariant.0 c.in-Ok.ensures) ∙ ap (filter (λ row. is_eq (side row))) c.self.view_is

pub returns-in-Err-clause-rows : goal.returns-in-Err-clause-rows
returns-in-Err-clause-rows g c =
    let laws = laws_of g.met.R.Ordered.total g.met.R.Ordered.exact g.met.R.InRuns.runs_total g.met.R.InRuns.runs_first in
    let sought : IsSought g.R.Ordered.cmp g.R.InRuns.runs (g.W.Near.side c.args.near.now) = record { run = g.met.W.Near.run c.args.near.now; whole = g.met.W.OfRun.whole c.args.near.now; alone = g.met.W.OfRun.alone c.args.near.now } in
    let side = g.W.Near.side c.args.near.now in
    let sets = c.self.inside.runs.items in
    sym (rows_of_none g.R.Ordered.cmp g.R.InRuns.runs laws side sought sets c.in-Err.field-0 c.self.invariant.0 c.in-Err.ensures) ∙ ap (filter (λ row. is_eq (side row))) c.self.view_is
