use Rattle.std.proofs.Common.{filter, length, not, sym, ap, subst, ◌∙◌, arith}
use Rattle.std.specs.Ordering.{is_eq}
use Rattle.ks_links.specs.RunSets.{AreRuns, all_rows}
use Rattle.ks_links.proofs.ChangeLemmas.{length_remove, runs_remove}
use Rattle.ks_links.proofs.SideRunLemmas.{IsSought, other_runs, other_than_none, run_within}
use Rattle.ks_links.proofs.SlotLemmas.{run_at}
use Rattle.ks_links.proofs.RunSetLemmas.{laws_of}
use Rattle.ks_links.proofs.run_set.RunSet.drop_of.Goals as goal

pub remove-rows-requires : goal.remove-rows-requires
remove-rows-requires g c =
    let laws = laws_of g.met.R.Ordered.total g.met.R.Ordered.exact g.met.R.InRuns.runs_total g.met.R.InRuns.runs_first in
    let sought : IsSought g.R.Ordered.cmp g.R.InRuns.runs (g.W.Near.side c.args.near.now) = record { run = g.met.W.Near.run c.args.near.now; whole = g.met.W.OfRun.whole c.args.near.now; alone = g.met.W.OfRun.alone c.args.near.now } in
    let side = g.W.Near.side c.args.near.now in
    let sets = c.self.inside.runs.items in
    run_within side sets c.in-Ok.at c.in-Ok.ensures

pub overflow_sub-self : goal.overflow_sub-self
overflow_sub-self g c =
    let laws = laws_of g.met.R.Ordered.total g.met.R.Ordered.exact g.met.R.InRuns.runs_total g.met.R.InRuns.runs_first in
    let sought : IsSought g.R.Ordered.cmp g.R.InRuns.runs (g.W.Near.side c.args.near.now) = record { run = g.met.W.Near.run c.args.near.now; whole = g.met.W.OfRun.whole c.args.near.now; alone = g.met.W.OfRun.alone c.args.near.now } in
    let side = g.W.Near.side c.args.near.now in
    let sets = c.self.inside.runs.items in
    let within = run_within side sets c.in-Ok.at c.in-Ok.ensures in
    let run = ap length (run_at sets c.in-Ok.at c.remove-rows.result c.remove-rows.ensures.value within) in
    let all = length_remove sets c.in-Ok.at within in
    omega (arith, run, all, c.self.invariant.1, c.len.ensures)

pub invariant_of-self : goal.invariant_of-self
invariant_of-self g c =
    let laws = laws_of g.met.R.Ordered.total g.met.R.Ordered.exact g.met.R.InRuns.runs_total g.met.R.InRuns.runs_first in
    let sought : IsSought g.R.Ordered.cmp g.R.InRuns.runs (g.W.Near.side c.args.near.now) = record { run = g.met.W.Near.run c.args.near.now; whole = g.met.W.OfRun.whole c.args.near.now; alone = g.met.W.OfRun.alone c.args.near.now } in
    let side = g.W.Near.side c.args.near.now in
    let sets = c.self.inside.runs.items in
    let within = run_within side sets c.in-Ok.at c.in-Ok.ensures in
    let run = ap length (run_at sets c.in-Ok.at c.remove-rows.result c.remove-rows.ensures.value within) in
    let all = length_remove sets c.in-Ok.at within in
    let left = ap (λ l. length (all_rows l)) c.remove-rows.ensures.items in (
      subst (AreRuns g.R.Ordered.cmp g.R.InRuns.runs) (sym c.remove-rows.ensures.items) (runs_remove g.R.Ordered.cmp g.R.InRuns.runs laws sets c.in-Ok.at c.self.invariant.0),
      omega (arith, run, all, left, c.self.invariant.1, c.len.ensures),
      omega (arith, c.self.invariant.2),
    )

pub returns-in-Ok : goal.returns-in-Ok
returns-in-Ok g c =
    let laws = laws_of g.met.R.Ordered.total g.met.R.Ordered.exact g.met.R.InRuns.runs_total g.met.R.InRuns.runs_first in
    let sought : IsSought g.R.Ordered.cmp g.R.InRuns.runs (g.W.Near.side c.args.near.now) = record { run = g.met.W.Near.run c.args.near.now; whole = g.met.W.OfRun.whole c.args.near.now; alone = g.met.W.OfRun.alone c.args.near.now } in
    let side = g.W.Near.side c.args.near.now in
    let sets = c.self.inside.runs.items in
    ap all_rows c.remove-rows.ensures.items ∙ sym (other_runs g.R.Ordered.cmp g.R.InRuns.runs laws side sought sets c.in-Ok.at c.self.invariant.0 c.in-Ok.ensures) ∙ ap (filter (λ row. not (is_eq (side row)))) c.self.view_is

pub returns-in_default : goal.returns-in_default
returns-in_default g c =
    let laws = laws_of g.met.R.Ordered.total g.met.R.Ordered.exact g.met.R.InRuns.runs_total g.met.R.InRuns.runs_first in
    let sought : IsSought g.R.Ordered.cmp g.R.InRuns.runs (g.W.Near.side c.args.near.now) = record { run = g.met.W.Near.run c.args.near.now; whole = g.met.W.OfRun.whole c.args.near.now; alone = g.met.W.OfRun.alone c.args.near.now } in
    let side = g.W.Near.side c.args.near.now in
    let sets = c.self.inside.runs.items in
    sym c.self.view_is ∙ sym (other_than_none g.R.Ordered.cmp g.R.InRuns.runs laws side sought sets c.in_default.field-0 c.self.invariant.0 c.in_default.ensures) ∙ ap (filter (λ row. not (is_eq (side row)))) c.self.view_is
