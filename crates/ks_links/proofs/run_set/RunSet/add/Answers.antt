use Rattle.std.proofs.Common.{is_none, IsSome, length, sym, ap, subst, ◌∙◌, arith, rules}
use Rattle.ks_base.specs.Tables.{find_row, put_row}
use Rattle.ks_links.specs.RunSets.{AreRuns, all_rows}
use Rattle.ks_links.proofs.PutLemmas.{found_there, gap_within, new_count, new_rows, new_runs, no_one, none_there, one_if, place_within, put_count, put_rows, put_runs}
use Rattle.ks_links.proofs.RunSetLemmas.{laws_of}
use Rattle.ks_links.proofs.run_set.RunSet.add.Goals as goal

pub add_to-requires : goal.add_to-requires
add_to-requires g c =
    let laws = laws_of g.met.R.Ordered.total g.met.R.Ordered.exact g.met.R.InRuns.runs_total g.met.R.InRuns.runs_first in
    place_within g.R.Ordered.cmp g.R.InRuns.runs laws c.args.row c.self.inside.runs.items c.in-Ok.at c.self.invariant.0 c.in-Ok.ensures

pub returns-in_err-new-in-Ok-clause-stands : goal.returns-in_err-new-in-Ok-clause-stands
returns-in_err-new-in-Ok-clause-stands g c =
    let laws = laws_of g.met.R.Ordered.total g.met.R.Ordered.exact g.met.R.InRuns.runs_total g.met.R.InRuns.runs_first in
    let find = find_row g.R.Ordered.cmp (λ next. next) c.args.row in
    λ stands.
    let both = c.in_err-new-in-Ok.ensures.stands (subst IsSome (sym (found_there g.R.Ordered.cmp g.R.InRuns.runs laws c.args.row c.self.inside.runs.items c.in-Ok.at c.self.invariant.0 c.in-Ok.ensures ∙ ap find c.self.view_is)) stands) in absurd (let no = both.0 in cc)

pub invariant_of-self-then-new : goal.invariant_of-self-then-new
invariant_of-self-then-new g c =
    let laws = laws_of g.met.R.Ordered.total g.met.R.Ordered.exact g.met.R.InRuns.runs_total g.met.R.InRuns.runs_first in
    let find = find_row g.R.Ordered.cmp (λ next. next) c.args.row in
    let told = c.in_ok-new-in-Ok.ensures.ok in
    let count = ap (λ l. length (all_rows l)) told.0 ∙ put_count g.R.Ordered.cmp g.R.InRuns.runs laws c.args.row c.self.inside.runs.items c.in-Ok.at c.self.invariant.0 c.in-Ok.ensures c.in_ok-new-in-Ok.new told.1 in
    let one = ap one_if c.if-new.true in
    let none = ap (λ o. is_none o) (sym (found_there g.R.Ordered.cmp g.R.InRuns.runs laws c.args.row c.self.inside.runs.items c.in-Ok.at c.self.invariant.0 c.in-Ok.ensures ∙ ap find c.self.view_is)) ∙ sym told.1 ∙ c.if-new.true in
    let room = c.if-is_full_for.ensures.room (search rules) none in
    let size = ap length c.self.view_is in (
      subst (AreRuns g.R.Ordered.cmp g.R.InRuns.runs) (sym told.0) (put_runs g.R.Ordered.cmp g.R.InRuns.runs laws c.args.row c.self.inside.runs.items c.in-Ok.at c.self.invariant.0 c.in-Ok.ensures),
      omega (arith, count, one, c.self.invariant.1),
      omega (arith, room, size, c.self.invariant.1),
    )

pub add_run-requires : goal.add_run-requires
add_run-requires g c =
    let laws = laws_of g.met.R.Ordered.total g.met.R.Ordered.exact g.met.R.InRuns.runs_total g.met.R.InRuns.runs_first in
    gap_within g.R.Ordered.cmp g.R.InRuns.runs laws c.args.row c.self.inside.runs.items c.in-Err.at c.self.invariant.0 c.in-Err.ensures

pub returns-in_err-add_run-in-Err-clause-stands : goal.returns-in_err-add_run-in-Err-clause-stands
returns-in_err-add_run-in-Err-clause-stands g c =
    let laws = laws_of g.met.R.Ordered.total g.met.R.Ordered.exact g.met.R.InRuns.runs_total g.met.R.InRuns.runs_first in
    let find = find_row g.R.Ordered.cmp (λ next. next) c.args.row in
    λ stands. absurd (no_one (find c.args.self.now) (ap is_none (sym (none_there g.R.Ordered.cmp g.R.InRuns.runs laws c.args.row c.self.inside.runs.items c.in-Err.at c.self.invariant.0 c.in-Err.ensures ∙ ap find c.self.view_is))) stands)

pub invariant_of-self-in-Err : goal.invariant_of-self-in-Err
invariant_of-self-in-Err g c =
    let laws = laws_of g.met.R.Ordered.total g.met.R.Ordered.exact g.met.R.InRuns.runs_total g.met.R.InRuns.runs_first in
    let find = find_row g.R.Ordered.cmp (λ next. next) c.args.row in
    let told = c.in_ok-add_run-in-Err.ensures.ok in
    let count = ap (λ l. length (all_rows l)) told ∙ new_count g.R.Ordered.cmp g.R.InRuns.runs laws c.args.row c.self.inside.runs.items c.in-Err.at c.self.invariant.0 c.in-Err.ensures in
    let none = ap is_none (sym (none_there g.R.Ordered.cmp g.R.InRuns.runs laws c.args.row c.self.inside.runs.items c.in-Err.at c.self.invariant.0 c.in-Err.ensures ∙ ap find c.self.view_is)) in
    let room = c.if-is_full_for.ensures.room (search rules) none in
    let size = ap length c.self.view_is in (
      subst (AreRuns g.R.Ordered.cmp g.R.InRuns.runs) (sym told) (new_runs g.R.Ordered.cmp g.R.InRuns.runs laws c.args.row c.self.inside.runs.items c.in-Err.at c.self.invariant.0 c.in-Err.ensures),
      omega (arith, count, c.self.invariant.1),
      omega (arith, room, size, c.self.invariant.1),
    )

pub returns-then-new-clause-ok : goal.returns-then-new-clause-ok
returns-then-new-clause-ok g c =
    let laws = laws_of g.met.R.Ordered.total g.met.R.Ordered.exact g.met.R.InRuns.runs_total g.met.R.InRuns.runs_first in
    let find = find_row g.R.Ordered.cmp (λ next. next) c.args.row in
    let put = put_row g.R.Ordered.cmp (λ next. next) c.args.row in
    let told = c.in_ok-new-in-Ok.ensures.ok in (
      ap all_rows told.0 ∙ put_rows g.R.Ordered.cmp g.R.InRuns.runs laws c.args.row c.self.inside.runs.items c.in-Ok.at c.self.invariant.0 c.in-Ok.ensures ∙ ap put c.self.view_is,
      told.1 ∙ ap is_none (found_there g.R.Ordered.cmp g.R.InRuns.runs laws c.args.row c.self.inside.runs.items c.in-Ok.at c.self.invariant.0 c.in-Ok.ensures ∙ ap find c.self.view_is),
    )

pub returns-then-new-clause-stands : goal.returns-then-new-clause-stands
returns-then-new-clause-stands g c =
    let laws = laws_of g.met.R.Ordered.total g.met.R.Ordered.exact g.met.R.InRuns.runs_total g.met.R.InRuns.runs_first in
    let find = find_row g.R.Ordered.cmp (λ next. next) c.args.row in
    let told = c.in_ok-new-in-Ok.ensures.ok in
    λ stands. absurd (no_one (find c.args.self.now) (ap is_none (sym (found_there g.R.Ordered.cmp g.R.InRuns.runs laws c.args.row c.self.inside.runs.items c.in-Ok.at c.self.invariant.0 c.in-Ok.ensures ∙ ap find c.self.view_is)) ∙ sym told.1 ∙ c.if-new.true) stands)

pub returns-else-new-clause-ok : goal.returns-else-new-clause-ok
returns-else-new-clause-ok g c =
    let laws = laws_of g.met.R.Ordered.total g.met.R.Ordered.exact g.met.R.InRuns.runs_total g.met.R.InRuns.runs_first in
    let find = find_row g.R.Ordered.cmp (λ next. next) c.args.row in
    let put = put_row g.R.Ordered.cmp (λ next. next) c.args.row in
    let told = c.in_ok-new-in-Ok.ensures.ok in (
      ap all_rows told.0 ∙ put_rows g.R.Ordered.cmp g.R.InRuns.runs laws c.args.row c.self.inside.runs.items c.in-Ok.at c.self.invariant.0 c.in-Ok.ensures ∙ ap put c.self.view_is,
      told.1 ∙ ap is_none (found_there g.R.Ordered.cmp g.R.InRuns.runs laws c.args.row c.self.inside.runs.items c.in-Ok.at c.self.invariant.0 c.in-Ok.ensures ∙ ap find c.self.view_is),
    )

pub returns-in_ok-add_run-in-Err-clause-ok : goal.returns-in_ok-add_run-in-Err-clause-ok
returns-in_ok-add_run-in-Err-clause-ok g c =
    let laws = laws_of g.met.R.Ordered.total g.met.R.Ordered.exact g.met.R.InRuns.runs_total g.met.R.InRuns.runs_first in
    let find = find_row g.R.Ordered.cmp (λ next. next) c.args.row in
    let put = put_row g.R.Ordered.cmp (λ next. next) c.args.row in
    (ap all_rows c.in_ok-add_run-in-Err.ensures.ok ∙ new_rows g.R.Ordered.cmp g.R.InRuns.runs laws c.args.row c.self.inside.runs.items c.in-Err.at c.self.invariant.0 c.in-Err.ensures ∙ ap put c.self.view_is, ap is_none (none_there g.R.Ordered.cmp g.R.InRuns.runs laws c.args.row c.self.inside.runs.items c.in-Err.at c.self.invariant.0 c.in-Err.ensures ∙ ap find c.self.view_is))

pub returns-in_ok-add_run-in-Err-clause-stands : goal.returns-in_ok-add_run-in-Err-clause-stands
returns-in_ok-add_run-in-Err-clause-stands g c =
    let laws = laws_of g.met.R.Ordered.total g.met.R.Ordered.exact g.met.R.InRuns.runs_total g.met.R.InRuns.runs_first in
    let find = find_row g.R.Ordered.cmp (λ next. next) c.args.row in
    λ stands. absurd (no_one (find c.args.self.now) (ap is_none (sym (none_there g.R.Ordered.cmp g.R.InRuns.runs laws c.args.row c.self.inside.runs.items c.in-Err.at c.self.invariant.0 c.in-Err.ensures ∙ ap find c.self.view_is))) stands)
