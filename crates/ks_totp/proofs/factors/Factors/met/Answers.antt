use Rattle.std.proofs.Common.{sym, ap, Some, ◌∙◌}
use Rattle.ks_base.proofs.PlaceLemmas.{find_found, find_gap}
use Rattle.ks_base.specs.Tables.{id_cmp}
use Rattle.ks_totp.specs.Factors.{Kept, met, row_met}
use Rattle.ks_totp.proofs.factors.Factors.met.Goals as goal

pub returns-in-Ok : goal.returns-in-Ok
returns-in-Ok c =
    let there = rw c.as_slice.ensures.value at c.in-Ok.ensures.place in
    let found = find_found id_cmp (λ row. row.user) c.args.user.now c.self.inside.rules.items c.in-Ok.at c.index.result.now there ∙ ap Some (sym c.index.ensures) in
    c.row_met.ensures ∙ ap (row_met c.args.methods) (sym found) ∙ ap (λ (kept : Kept). met kept.state c.args.user.now c.args.methods) c.self.view_is

pub returns-in-Err : goal.returns-in-Err
returns-in-Err c =
    let gap = rw c.as_slice.ensures.value at c.in-Err.ensures.place in
    let none = find_gap id_cmp (λ row. row.user) c.args.user.now c.self.inside.rules.items _ gap in
    ap (row_met c.args.methods) (sym none) ∙ ap (λ (kept : Kept). met kept.state c.args.user.now c.args.methods) c.self.view_is
