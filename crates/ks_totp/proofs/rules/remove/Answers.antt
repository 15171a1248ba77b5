use Rattle.std.proofs.Common.{sym, ◌∙◌}
use Rattle.std.proofs.lemmas.Cmp.{nat_list_cmp_total}
use Rattle.ks_base.proofs.PlaceLemmas.{drop_found, drop_gap}
use Rattle.ks_base.specs.Tables.{id_cmp}
use Rattle.ks_totp.proofs.rules.remove.Goals as goal

pub returns-in-Ok-clause-rows : goal.returns-in-Ok-clause-rows
returns-in-Ok-clause-rows c =
    let there = rw c.as_slice.ensures.value at c.in-Ok.ensures.place in
    c.remove-row.ensures.items ∙ sym (drop_found id_cmp (λ row. row.user) nat_list_cmp_total c.args.user.now c.args.rows.now.items c.in-Ok.at c.requires there)

pub returns-in-Err-clause-rows : goal.returns-in-Err-clause-rows
returns-in-Err-clause-rows c =
    let gap = rw c.as_slice.ensures.value at c.in-Err.ensures.place in
    sym (drop_gap id_cmp (λ row. row.user) c.args.user.now c.args.rows.now.items _ gap)
