use Rattle.std.proofs.Common.{is_some, ap, ◌∙◌}
use Rattle.ks_base.specs.Tables.{find_row}
use Rattle.ks_links.proofs.PutLemmas.{found_there, none_there, place_within}
use Rattle.ks_links.proofs.SlotLemmas.{run_at}
use Rattle.ks_links.proofs.RunSetLemmas.{laws_of}
use Rattle.ks_links.proofs.run_set.RunSet.has.Goals as goal

pub index-requires : goal.index-requires
index-requires g c =
    let laws = laws_of g.met.R.Ordered.total g.met.R.Ordered.exact g.met.R.InRuns.runs_total g.met.R.InRuns.runs_first in
    place_within g.R.Ordered.cmp g.R.InRuns.runs laws c.args.row.now c.self.inside.runs.items c.in-Ok.at c.self.invariant.0 c.in-Ok.ensures

pub returns-in-Ok : goal.returns-in-Ok
returns-in-Ok g c =
    let laws = laws_of g.met.R.Ordered.total g.met.R.Ordered.exact g.met.R.InRuns.runs_total g.met.R.InRuns.runs_first in
    let sets = c.self.inside.runs.items in
    let find = find_row g.R.Ordered.cmp (λ next. next) c.args.row.now in
    let run = run_at sets c.in-Ok.at c.index.result.now c.index.ensures (place_within g.R.Ordered.cmp g.R.InRuns.runs laws c.args.row.now c.self.inside.runs.items c.in-Ok.at c.self.invariant.0 c.in-Ok.ensures) in
    c.has.ensures ∙ ap is_some (ap find run ∙ found_there g.R.Ordered.cmp g.R.InRuns.runs laws c.args.row.now c.self.inside.runs.items c.in-Ok.at c.self.invariant.0 c.in-Ok.ensures ∙ ap find c.self.view_is)

pub returns-in-Err : goal.returns-in-Err
returns-in-Err g c =
    let laws = laws_of g.met.R.Ordered.total g.met.R.Ordered.exact g.met.R.InRuns.runs_total g.met.R.InRuns.runs_first in
    let find = find_row g.R.Ordered.cmp (λ next. next) c.args.row.now in
    ap is_some (none_there g.R.Ordered.cmp g.R.InRuns.runs laws c.args.row.now c.self.inside.runs.items c.in-Err.field-0 c.self.invariant.0 c.in-Err.ensures ∙ ap find c.self.view_is)
