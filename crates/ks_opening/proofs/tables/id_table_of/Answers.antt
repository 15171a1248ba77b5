use Rattle.std.proofs.Common.{sym, ap, subst, ◌∙◌, arith}
use Rattle.std.proofs.lemmas.Cmp.{nat_list_cmp_total}
use Rattle.ks_base.specs.Tables.{id_cmp, put_row}
use Rattle.ks_machine.specs.Opened.{put_all}
use Rattle.ks_opening.specs.steps.Indexed.{AreApart}
use Rattle.ks_opening.proofs.PutLemmas.{apart_tells, onto_end, onto_more, put_moved}
use Rattle.ks_opening.proofs.tables.id_table_of.Goals as goal

pub loop-row-preserved : goal.loop-row-preserved
loop-row-preserved g c =
    onto_more (put_row id_cmp g.R.Row.key) c.loop-row.table c.put.new.self c.loop-row.rows.items c.pop.new.self.items _ c.in-Some.row
    c.in-Some.ensures.items c.in_ok-put.ensures.ok c.loop-row.invariant

pub returns : goal.returns
returns g c =
    let put = put_row id_cmp g.R.Row.key in
    onto_end put c.loop-row.table c.loop-row.rows.items _ (omega (arith, c.in_default.ensures.cases.0)) c.loop-row.invariant
    ∙ put_moved id_cmp g.R.Row.key nat_list_cmp_total c.into_vec-rows.result.items c.sort_unstable_by.new.self.items
    (apart_tells id_cmp g.R.Row.key nat_list_cmp_total c.into_vec-rows.result.items (subst (AreApart id_cmp g.R.Row.key) (sym c.into_vec-rows.ensures) c.requires))
    c.sort_unstable_by.ensures.permutation ∙ ap (put_all put) c.into_vec-rows.ensures
