use Rattle.std.proofs.Common.{sym, ◌∙◌}
use Rattle.ks_base.specs.Tables.{id_cmp}
use Rattle.ks_base.proofs.PlaceLemmas.{put_found, put_gap}
use Rattle.ks_policy.proofs.texts.put.Goals as goal

pub returns-in-Ok : goal.returns-in-Ok
returns-in-Ok c =
    let there = rw (c.as_slice.ensures.value, c.as_slice-2.ensures.bytes) at c.in-Ok.ensures.place in
    sym (put_found id_cmp (λ row. row.name) c.args.row c.args.rows.now.items c.in-Ok.at there)

pub returns-in_ok-insert-in-Err : goal.returns-in_ok-insert-in-Err
returns-in_ok-insert-in-Err c =
    let gap = rw (c.as_slice.ensures.value, c.as_slice-2.ensures.bytes) at c.in-Err.ensures.place in
    c.in_ok-insert-in-Err.ensures.items ∙ sym (put_gap id_cmp (λ row. row.name) c.args.row c.args.rows.now.items _ gap)
