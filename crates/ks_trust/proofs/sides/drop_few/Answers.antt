use Rattle.std.proofs.Common.{List, sym, subst, arith}
use Rattle.ks_base.specs.declared.trusts.TrustRow.{TrustRow}
use Rattle.ks_base.specs.Tables.{id_cmp, IsAscending}
use Rattle.ks_base.proofs.TableLemmas.{ascending_drop}
use Rattle.ks_trust.specs.State.{without_trusts}
use Rattle.ks_trust.proofs.RowChanges.{without_all, without_at}
use Rattle.ks_trust.proofs.sides.drop_few.Goals as goal

pub loop-id-preserved : goal.loop-id-preserved
loop-id-preserved c = record {
  up =
      subst (λ (trusts : List TrustRow). IsAscending id_cmp (λ row. row.id) trusts) (sym c.drop_one.ensures.rows)
      (ascending_drop id_cmp (λ row. row.id) c.id-item.result c.loop-id.rows.items c.loop-id.invariant.up);
  are = c.drop_one.ensures.sides;
  rest =
      without_at c.args.ids.now c.loop-id.id-index c.id-item.result c.loop-id.rows.items c.drop_one.new.rows.items (without_trusts c.args.ids.now c.args.rows.now.items)
      c.loop-id-test.true c.id-item.is c.drop_one.ensures.rows c.loop-id.invariant.rest;
}

pub returns-clause-rows : goal.returns-clause-rows
returns-clause-rows c =
    without_all c.args.ids.now c.loop-id.id-index c.loop-id.rows.items (without_trusts c.args.ids.now c.args.rows.now.items) (omega (arith, c.loop-id-test.false))
    c.loop-id.invariant.rest
