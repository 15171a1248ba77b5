use Rattle.ks_base.proofs.TableLemmas.{ascending_filter}
use Rattle.ks_base.specs.declared.factors.MfaRow.{MfaRow}
use Rattle.ks_base.specs.Tables.{id_cmp}
use Rattle.ks_totp.proofs.factors.Factors.keep_users.Goals as goal

pub invariant_of-self : goal.invariant_of-self
invariant_of-self g c = (
  c.keep_of.ensures.owners,
  rw c.keep_of-2.ensures.rows
      (ascending_filter id_cmp (λ row. row.user) (λ (row : MfaRow). g.T.Test.test c.args.users.now row.user) c.self.inside.rules.items c.self.invariant.1),
)
