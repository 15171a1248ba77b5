use Rattle.ks_base.proofs.TableLemmas.{ascending_drop}
use Rattle.ks_base.specs.Tables.{id_cmp}
use Rattle.ks_totp.proofs.factors.Factors.drop_user.Goals as goal

pub invariant_of-self : goal.invariant_of-self
invariant_of-self c =
    (c.keep_of.ensures.owners, rw c.remove.ensures.rows (ascending_drop id_cmp (λ row. row.user) c.args.user.now c.self.inside.rules.items c.self.invariant.1))
