use Rattle.std.proofs.Common.{sym, ◌∙◌}
use Rattle.ks_base.proofs.PlaceLemmas.{put_found, put_gap}
use Rattle.ks_base.specs.Tables.{id_cmp}
use Rattle.ks_totp.proofs.rules.put.Goals as goal

pub returns-in-Ok-clause-rows : goal.returns-in-Ok-clause-rows
returns-in-Ok-clause-rows c =
    let there = rw c.as_slice.ensures.value at c.in-Ok.ensures.place in
    sym (put_found id_cmp (λ row. row.user) c.args.row c.args.rows.now.items c.in-Ok.at there)

pub returns-in-Err-clause-rows : goal.returns-in-Err-clause-rows
returns-in-Err-clause-rows c =
    let gap = rw c.as_slice.ensures.value at c.in-Err.ensures.place in
    let inserted = rw (c.insert-inserted.ensures.succeeds c.requires.room) at c.insert-inserted.ensures.items in
    inserted ∙ sym (put_gap id_cmp (λ row. row.user) c.args.row c.args.rows.now.items c.in-Err.at gap)
