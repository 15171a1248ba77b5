use Rattle.std.proofs.Common.{Some, sym, ap, ◌∙◌}
use Rattle.ks_base.specs.Rows.{trust_of}
use Rattle.ks_base.specs.Tables.{id_cmp}
use Rattle.ks_base.proofs.PlaceLemmas.{find_found, find_gap}
use Rattle.ks_trust.proofs.trusts.Trusts.trust.Goals as goal

pub returns-in-Ok-clause-found : goal.returns-in-Ok-clause-found
returns-in-Ok-clause-found c =
    let there = rw c.as_slice.ensures.value at c.in-Ok.ensures.place in
    ap Some (c.get.ensures ∙ c.index.ensures) ∙ sym (find_found id_cmp (λ row. row.id) c.args.id.now c.self.inside.rows.items c.in-Ok.at c.index.result.now there)
    ∙ ap (trust_of c.args.id.now) c.self.view_is

pub returns-in-Err-clause-found : goal.returns-in-Err-clause-found
returns-in-Err-clause-found c =
    let gap = rw c.as_slice.ensures.value at c.in-Err.ensures.place in
    sym (find_gap id_cmp (λ row. row.id) c.args.id.now c.self.inside.rows.items _ gap) ∙ ap (trust_of c.args.id.now) c.self.view_is
