use Rattle.ks_base.specs.declared.trusts.TrustRow.{TrustRow}
use Rattle.ks_base.specs.Trusts.{names_trust}
use Rattle.ks_base.proofs.TableLemmas.{some_ids_ascend}
use Rattle.ks_trust.proofs.trusts.Trusts.ids_naming.Goals as goal

pub returns-clause-ascending : goal.returns-clause-ascending
returns-clause-ascending c =
    rw (c.from_vec.ensures, c.in_ok-ids.ensures) (some_ids_ascend (λ (row : TrustRow). row.id) (names_trust c.args.what.now) c.args.self.now c.rows-ascending.ensures.ascending)
