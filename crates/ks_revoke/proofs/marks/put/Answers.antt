use Rattle.std.proofs.Common.{sym, ◌∙◌}
use Rattle.ks_base.proofs.PlaceLemmas.{put_found, put_gap}
use Rattle.ks_revoke.specs.Things.{thing_cmp, thing_of}
use Rattle.ks_revoke.proofs.marks.put.Goals as goal

pub returns-in-Ok-clause-rows : goal.returns-in-Ok-clause-rows
returns-in-Ok-clause-rows c =
    let there = rw c.as_slice.ensures.value at c.in-Ok.ensures.place in
    rw c.set.ensures (sym (put_found thing_cmp thing_of c.args.row.now c.args.marks.now.items c.in-Ok.at there))

pub returns-in-Some-clause-rows : goal.returns-in-Some-clause-rows
returns-in-Some-clause-rows c =
    let gap = rw c.as_slice.ensures.value at c.in-Err.ensures.place in
    let inserted = rw (c.insert-inserted.ensures.succeeds c.requires.room) at c.insert-inserted.ensures.items in
    let put = rw c.set-in-Err.ensures at inserted in
    put ∙ sym (put_gap thing_cmp thing_of c.args.row.now c.args.marks.now.items c.in-Err.at gap)
