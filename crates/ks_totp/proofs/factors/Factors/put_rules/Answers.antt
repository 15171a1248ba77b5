use Rattle.std.proofs.lemmas.Cmp.{nat_list_cmp_total}
use Rattle.ks_base.proofs.TableLemmas.{ascending_put}
use Rattle.ks_base.specs.Tables.{id_cmp}
use Rattle.ks_totp.proofs.factors.Factors.put_rules.Goals as goal

pub invariant_of-self : goal.invariant_of-self
invariant_of-self c =
    (c.self.invariant.0, rw c.put.ensures.rows (ascending_put id_cmp (λ row. row.user) nat_list_cmp_total c.args.row c.self.inside.rules.items c.self.invariant.1))
