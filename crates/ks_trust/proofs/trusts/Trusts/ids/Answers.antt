use Rattle.ks_base.proofs.TableLemmas.{ids_ascend}
use Rattle.ks_base.specs.declared.trusts.TrustRow.{TrustRow}
use Rattle.ks_trust.proofs.trusts.Trusts.ids.Goals as goal

pub returns-clause-ascending : goal.returns-clause-ascending
returns-clause-ascending c = rw (c.from_vec.ensures, c.in_ok-ids.ensures, c.as_slice.ensures.value) (ids_ascend (λ (row : TrustRow). row.id) c.self.inside.rows.items c.self.invariant.0)
