use Rattle.std.proofs.Common.{Some}
use Rattle.ks_base.proofs.TableLemmas.{some_ids_ascend}
use Rattle.ks_base.specs.declared.trusts.TrustRow.{TrustRow}
use Rattle.ks_trust.specs.State.{is_touched}
use Rattle.ks_trust.proofs.trusts.Trusts.touching.Goals as goal

pub returns-clause-ascending : goal.returns-clause-ascending
returns-clause-ascending c =
    rw (c.from_vec.ensures, c.in_ok-ids.ensures, c.as_slice.ensures.value)
    (some_ids_ascend (λ (row : TrustRow). row.id) (is_touched c.args.what.now (Some c.in-Some.role.now)) c.self.inside.rows.items c.self.invariant.0)
