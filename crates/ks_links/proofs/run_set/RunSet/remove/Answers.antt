use Rattle.std.proofs.Common.{is_some, length, sym, ap, subst, ◌∙◌, arith}
use Rattle.ks_base.specs.Tables.{find_row, drop_row}
use Rattle.ks_links.specs.RunSets.{AreRuns, all_rows}
use Rattle.ks_links.proofs.PutLemmas.{drop_count, drop_rows, drop_runs, found_there, none_kept, none_there, one_if, place_within}
use Rattle.ks_links.proofs.RunSetLemmas.{laws_of}
use Rattle.ks_links.proofs.run_set.RunSet.remove.Goals as goal

pub remove_from-was-requires : goal.remove_from-was-requires
remove_from-was-requires g c =
    let laws = laws_of g.met.R.Ordered.total g.met.R.Ordered.exact g.met.R.InRuns.runs_total g.met.R.InRuns.runs_first in
    place_within g.R.Ordered.cmp g.R.InRuns.runs laws c.args.row.now c.self.inside.runs.items c.in-Ok.at c.self.invariant.0 c.in-Ok.ensures

pub overflow_sub-self : goal.overflow_sub-self
overflow_sub-self g c =
    let laws = laws_of g.met.R.Ordered.total g.met.R.Ordered.exact g.met.R.InRuns.runs_total g.met.R.InRuns.runs_first in
    let count = drop_count g.R.Ordered.cmp g.R.InRuns.runs laws c.args.row.now c.self.inside.runs.items c.in-Ok.at c.self.invariant.0 c.in-Ok.ensures c.remove_from-was.result c.remove_from-was.ensures.was in
    let one = ap one_if c.if-was.true in
    omega (arith, count, one, c.self.invariant.1)

pub invariant_of-self : goal.invariant_of-self
invariant_of-self g c =
    let laws = laws_of g.met.R.Ordered.total g.met.R.Ordered.exact g.met.R.InRuns.runs_total g.met.R.InRuns.runs_first in
    let told = c.remove_from-was.ensures.rows in
    let count = drop_count g.R.Ordered.cmp g.R.InRuns.runs laws c.args.row.now c.self.inside.runs.items c.in-Ok.at c.self.invariant.0 c.in-Ok.ensures c.remove_from-was.result c.remove_from-was.ensures.was in
    let one = ap one_if c.if-was.true in
    let left = ap (λ l. length (all_rows l)) told in (
      subst (AreRuns g.R.Ordered.cmp g.R.InRuns.runs) (sym told) (drop_runs g.R.Ordered.cmp g.R.InRuns.runs laws c.args.row.now c.self.inside.runs.items c.in-Ok.at c.self.invariant.0 c.in-Ok.ensures),
      omega (arith, count, one, left, c.self.invariant.1),
      omega (arith, c.self.invariant.2),
    )

pub invariant_of-self-else-was : goal.invariant_of-self-else-was
invariant_of-self-else-was g c =
    let laws = laws_of g.met.R.Ordered.total g.met.R.Ordered.exact g.met.R.InRuns.runs_total g.met.R.InRuns.runs_first in
    let told = c.remove_from-was.ensures.rows in
    let count = drop_count g.R.Ordered.cmp g.R.InRuns.runs laws c.args.row.now c.self.inside.runs.items c.in-Ok.at c.self.invariant.0 c.in-Ok.ensures c.remove_from-was.result c.remove_from-was.ensures.was in
    let one = ap one_if c.if-was.false in
    let left = ap (λ l. length (all_rows l)) told in (
      subst (AreRuns g.R.Ordered.cmp g.R.InRuns.runs) (sym told) (drop_runs g.R.Ordered.cmp g.R.InRuns.runs laws c.args.row.now c.self.inside.runs.items c.in-Ok.at c.self.invariant.0 c.in-Ok.ensures),
      omega (arith, count, one, left, c.self.invariant.1),
      c.self.invariant.2,
    )

pub returns-then-was-clause-rows : goal.returns-then-was-clause-rows
returns-then-was-clause-rows g c =
    let laws = laws_of g.met.R.Ordered.total g.met.R.Ordered.exact g.met.R.InRuns.runs_total g.met.R.InRuns.runs_first in
    let drop = drop_row g.R.Ordered.cmp (λ next. next) c.args.row.now in
    ap all_rows c.remove_from-was.ensures.rows ∙ drop_rows g.R.Ordered.cmp g.R.InRuns.runs laws c.args.row.now c.self.inside.runs.items c.in-Ok.at c.self.invariant.0 c.in-Ok.ensures ∙ ap drop c.self.view_is

pub returns-then-was-clause-was : goal.returns-then-was-clause-was
returns-then-was-clause-was g c =
    let laws = laws_of g.met.R.Ordered.total g.met.R.Ordered.exact g.met.R.InRuns.runs_total g.met.R.InRuns.runs_first in
    let find = find_row g.R.Ordered.cmp (λ next. next) c.args.row.now in
    c.remove_from-was.ensures.was ∙ ap is_some (found_there g.R.Ordered.cmp g.R.InRuns.runs laws c.args.row.now c.self.inside.runs.items c.in-Ok.at c.self.invariant.0 c.in-Ok.ensures ∙ ap find c.self.view_is)

pub returns-else-was-clause-rows : goal.returns-else-was-clause-rows
returns-else-was-clause-rows g c =
    let laws = laws_of g.met.R.Ordered.total g.met.R.Ordered.exact g.met.R.InRuns.runs_total g.met.R.InRuns.runs_first in
    let drop = drop_row g.R.Ordered.cmp (λ next. next) c.args.row.now in
    ap all_rows c.remove_from-was.ensures.rows ∙ drop_rows g.R.Ordered.cmp g.R.InRuns.runs laws c.args.row.now c.self.inside.runs.items c.in-Ok.at c.self.invariant.0 c.in-Ok.ensures ∙ ap drop c.self.view_is

pub returns-else-was-clause-was : goal.returns-else-was-clause-was
returns-else-was-clause-was g c =
    let laws = laws_of g.met.R.Ordered.total g.met.R.Ordered.exact g.met.R.InRuns.runs_total g.met.R.InRuns.runs_first in
    let find = find_row g.R.Ordered.cmp (λ next. next) c.args.row.now in
    c.remove_from-was.ensures.was ∙ ap is_some (found_there g.R.Ordered.cmp g.R.InRuns.runs laws c.args.row.now c.self.inside.runs.items c.in-Ok.at c.self.invariant.0 c.in-Ok.ensures ∙ ap find c.self.view_is)

pub returns-in-Err-clause-rows : goal.returns-in-Err-clause-rows
returns-in-Err-clause-rows g c =
    let laws = laws_of g.met.R.Ordered.total g.met.R.Ordered.exact g.met.R.InRuns.runs_total g.met.R.InRuns.runs_first in
    let drop = drop_row g.R.Ordered.cmp (λ next. next) c.args.row.now in
    sym c.self.view_is ∙ none_kept g.R.Ordered.cmp g.R.InRuns.runs laws c.args.row.now c.self.inside.runs.items c.in-Err.field-0 c.self.invariant.0 c.in-Err.ensures ∙ ap drop c.self.view_is

pub returns-in-Err-clause-was : goal.returns-in-Err-clause-was
returns-in-Err-clause-was g c =
    let laws = laws_of g.met.R.Ordered.total g.met.R.Ordered.exact g.met.R.InRuns.runs_total g.met.R.InRuns.runs_first in
    let find = find_row g.R.Ordered.cmp (λ next. next) c.args.row.now in
    ap is_some (none_there g.R.Ordered.cmp g.R.InRuns.runs laws c.args.row.now c.self.inside.runs.items c.in-Err.field-0 c.self.invariant.0 c.in-Err.ensures ∙ ap find c.self.view_is)
