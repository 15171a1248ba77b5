use Rattle.ks_base.proofs.TableLemmas.{some_ids_ascend}
use Rattle.ks_base.specs.declared.trusts.TrustRow.{TrustRow}
use Rattle.ks_trust.proofs.trusts.Trusts.ids_where.Goals as goal

pub returns-clause-ascending : goal.returns-clause-ascending
returns-clause-ascending g c =
    rw (c.from_vec.ensures, c.in_ok-ids.ensures, c.as_slice.ensures.value)
    (some_ids_ascend (λ (row : TrustRow). row.id) (g.T.Test.test c.args.test.now) c.self.inside.rows.items c.self.invariant.0)
