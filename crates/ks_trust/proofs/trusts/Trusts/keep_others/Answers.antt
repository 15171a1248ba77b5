use Rattle.std.proofs.Common.{rules, List, not, sym, ap, subst, ◌∙◌}
use Rattle.std.proofs.lemmas.Fn.{filter_same}
use Rattle.ks_base.specs.declared.trusts.TrustRow.{TrustRow}
use Rattle.ks_base.specs.Tables.{id_cmp}
use Rattle.ks_base.proofs.TableLemmas.{ascending_filter}
use Rattle.ks_trust.specs.Sides.{AreSides}
use Rattle.ks_trust.specs.State.{is_listed, without_trusts, IsClosed}
use Rattle.ks_trust.proofs.RowChanges.{chained_without}
use Rattle.ks_trust.proofs.SideLemmas.{sides_left}
use Rattle.ks_trust.proofs.trusts.Trusts.keep_others.Goals as goal

pub invariant_of-self : goal.invariant_of-self
invariant_of-self c =
    let e = filter_same _ (λ row. not (is_listed c.args.ids.now row)) _ (λ x b f called. (search rules, search rules)) _ _ c.retain.ensures.filtered in
    let closed = subst (λ (trusts : List TrustRow). IsClosed trusts c.args.ids.now) (sym c.self.view_is) c.requires.closed in
    rw e (
      ascending_filter id_cmp (λ row. row.id) (λ row. not (is_listed c.args.ids.now row)) c.self.inside.rows.items c.self.invariant.0,
      chained_without c.self.inside.rows.items c.args.ids.now c.self.invariant.1 closed,
      subst (AreSides (without_trusts c.args.ids.now c.self.inside.rows.items)) (sym c.keep.ensures)
          (sides_left c.args.ids.now c.self.inside.rows.items c.self.inside.sides c.self.invariant.2),
    )

pub returns : goal.returns
returns c =
    let e = filter_same _ (λ row. not (is_listed c.args.ids.now row)) _ (λ x b f called. (search rules, search rules)) _ _ c.retain.ensures.filtered in
    e ∙ ap (without_trusts c.args.ids.now) c.self.view_is
