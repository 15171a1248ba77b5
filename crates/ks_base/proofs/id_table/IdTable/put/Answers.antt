use Rattle.std.proofs.Common.{set, sym, ap, ◌∙◌}
use Rattle.std.proofs.lemmas.Cmp.{nat_list_cmp_total}
use Rattle.ks_base.specs.Tables.{id_cmp, find_row, put_row}
use Rattle.ks_base.proofs.PlaceLemmas.{find_gap, put_found, put_gap, ascending_set, ascending_insert, none_stands}
use Rattle.ks_base.proofs.id_table.IdTable.put.Goals as goal

pub invariant_of-self : goal.invariant_of-self
invariant_of-self g c =
    let there = rw (c.as_slice.ensures.value, c.id.ensures) at c.in-Ok.ensures.place in
    rw c.set.ensures (ascending_set id_cmp g.R.Row.key nat_list_cmp_total c.args.row c.self.inside.rows.items c.in-Ok.at c.self.invariant there)

pub returns-in_err-insert-in-Err-clause-stands : goal.returns-in_err-insert-in-Err-clause-stands
returns-in_err-insert-in-Err-clause-stands g c =
    let gap = rw (c.as_slice.ensures.value, c.id.ensures) at c.in-Err.ensures.place in
    λ stands. absurd (none_stands _ (ap (find_row id_cmp g.R.Row.key (g.R.Row.key c.args.row)) (sym c.self.view_is)
    ∙ find_gap id_cmp g.R.Row.key (g.R.Row.key c.args.row) c.self.inside.rows.items _ gap) stands)

pub invariant_of-self-in-Err : goal.invariant_of-self-in-Err
invariant_of-self-in-Err g c =
    let gap = rw (c.as_slice.ensures.value, c.id.ensures) at c.in-Err.ensures.place in
    rw c.in_ok-insert-in-Err.ensures.ok (ascending_insert id_cmp g.R.Row.key nat_list_cmp_total c.args.row c.self.inside.rows.items _ c.self.invariant gap)

pub returns-in-Ok-clause-ok : goal.returns-in-Ok-clause-ok
returns-in-Ok-clause-ok g c =
    let there = rw (c.as_slice.ensures.value, c.id.ensures) at c.in-Ok.ensures.place in
    ap (set c.self.inside.rows.items c.in-Ok.at) c.set.ensures ∙ sym (put_found id_cmp g.R.Row.key c.args.row c.self.inside.rows.items c.in-Ok.at there) ∙ ap (put_row id_cmp g.R.Row.key c.args.row) c.self.view_is

pub returns-in_ok-insert-in-Err-clause-ok : goal.returns-in_ok-insert-in-Err-clause-ok
returns-in_ok-insert-in-Err-clause-ok g c =
    let gap = rw (c.as_slice.ensures.value, c.id.ensures) at c.in-Err.ensures.place in
    c.in_ok-insert-in-Err.ensures.ok ∙ sym (put_gap id_cmp g.R.Row.key c.args.row c.self.inside.rows.items _ gap)
    ∙ ap (put_row id_cmp g.R.Row.key c.args.row) c.self.view_is
