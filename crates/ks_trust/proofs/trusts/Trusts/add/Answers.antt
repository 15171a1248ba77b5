use Rattle.std.proofs.Common.{List, sym, ap, subst, ◌∙◌}
use Rattle.std.proofs.lemmas.Cmp.{nat_list_cmp_total}
use Rattle.ks_base.specs.declared.trusts.TrustRow.{TrustRow}
use Rattle.ks_base.specs.Rows.{trust_of}
use Rattle.ks_base.specs.Tables.{id_cmp}
use Rattle.ks_base.specs.Trusts.{IsChained}
use Rattle.ks_base.proofs.PlaceLemmas.{find_found, put_gap, ascending_insert}
use Rattle.ks_trust.specs.Sides.{AreSides}
use Rattle.ks_trust.specs.State.{with_trust}
use Rattle.ks_trust.proofs.RowChanges.{chained_insert}
use Rattle.ks_trust.proofs.trusts.Trusts.add.Goals as goal

pub unreachable-requires : goal.unreachable-requires
unreachable-requires c =
    let there = rw c.as_slice.ensures.value at c.in_default.ensures.place in
    let found = find_found id_cmp (λ row. row.id) c.args.row.id c.self.inside.rows.items c.in_default.field-0 c.args.row there in
    let none = ap (trust_of c.args.row.id) c.self.view_is ∙ c.requires.new in
    cc

pub invariant_of-self-2 : goal.invariant_of-self-2
invariant_of-self-2 c =
    let gap = rw c.as_slice.ensures.value at c.in-Err.ensures.place in
    let none = ap (trust_of c.args.row.id) c.self.view_is ∙ c.requires.new in
    let chained = subst (λ (trusts : List TrustRow). IsChained trusts c.args.row) (sym c.self.view_is) c.requires.chained in
    rw c.in_ok-insert.ensures.ok (
      ascending_insert id_cmp (λ row. row.id) nat_list_cmp_total c.args.row c.self.inside.rows.items c.in-Err.at c.self.invariant.0 gap,
      chained_insert c.self.inside.rows.items c.args.row c.in-Err.at gap c.self.invariant.1 none chained,
      subst (λ (trusts : List TrustRow). AreSides trusts c.insert.new.index) c.in_ok-insert.ensures.ok c.in_ok-insert.ensures.sides,
    )

pub returns-clause-ok : goal.returns-clause-ok
returns-clause-ok c =
    let gap = rw c.as_slice.ensures.value at c.in-Err.ensures.place in
    c.in_ok-insert.ensures.ok ∙ sym (put_gap id_cmp (λ row. row.id) c.args.row c.self.inside.rows.items _ gap) ∙ ap (with_trust c.args.row) c.self.view_is
