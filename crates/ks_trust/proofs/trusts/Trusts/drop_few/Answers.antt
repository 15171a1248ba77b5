use Rattle.std.proofs.Common.{List, not, sym, ap, subst, ◌∙◌}
use Rattle.ks_base.specs.declared.trusts.TrustRow.{TrustRow}
use Rattle.ks_base.specs.Tables.{id_cmp}
use Rattle.ks_base.proofs.TableLemmas.{ascending_filter}
use Rattle.ks_trust.specs.Sides.{AreSides}
use Rattle.ks_trust.specs.State.{is_listed, without_trusts, IsClosed}
use Rattle.ks_trust.proofs.RowChanges.{chained_without}
use Rattle.ks_trust.proofs.trusts.Trusts.drop_few.Goals as goal

pub invariant_of-self : goal.invariant_of-self
invariant_of-self c =
    let closed = subst (λ (trusts : List TrustRow). IsClosed trusts c.args.ids.now) (sym c.self.view_is) c.requires in
    rw c.drop_few.ensures.rows (
      ascending_filter id_cmp (λ row. row.id) (λ row. not (is_listed c.args.ids.now row)) c.self.inside.rows.items c.self.invariant.0,
      chained_without c.self.inside.rows.items c.args.ids.now c.self.invariant.1 closed,
      subst (λ (trusts : List TrustRow). AreSides trusts c.drop_few.new.index) c.drop_few.ensures.rows c.drop_few.ensures.sides,
    )

pub returns : goal.returns
returns c = c.drop_few.ensures.rows ∙ ap (without_trusts c.args.ids.now) c.self.view_is
