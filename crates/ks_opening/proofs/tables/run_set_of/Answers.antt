use Rattle.std.proofs.Common.{ap, ◌∙◌, arith}
use Rattle.ks_base.specs.Tables.{put_row}
use Rattle.ks_machine.specs.Opened.{put_all}
use Rattle.ks_opening.proofs.PutLemmas.{onto_end, onto_more, put_moved}
use Rattle.ks_opening.proofs.tables.run_set_of.Goals as goal

pub loop-row-preserved : goal.loop-row-preserved
loop-row-preserved g c =
    onto_more (put_row g.R.Ordered.cmp (λ row. row)) c.loop-row.set c.add.new.self c.loop-row.rows.items c.pop.new.self.items _ c.in-Some.row
    c.in-Some.ensures.items c.in_ok-_new.ensures.ok.0 c.loop-row.invariant

pub returns : goal.returns
returns g c =
    let put = put_row g.R.Ordered.cmp (λ row. row) in
    onto_end put c.loop-row.set c.loop-row.rows.items _ (omega (arith, c.in_default.ensures.cases.0)) c.loop-row.invariant
    ∙ put_moved g.R.Ordered.cmp (λ row. row) g.met.R.Ordered.total c.into_vec-rows.result.items c.sort_unstable_by.new.self.items (λ a b first second. g.met.R.Ordered.exact a b)
    c.sort_unstable_by.ensures.permutation ∙ ap (put_all put) c.into_vec-rows.ensures
