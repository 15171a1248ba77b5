-- The implications of a role stand side by side.
use Rattle.std.proofs.Common.{ℕ, List}
use Rattle.std.proofs.lemmas.Cmp.{nat_list_cmp_total}
use Rattle.ks_base.specs.declared.grants.ImplyRow.{ImplyRow}
use Rattle.ks_base.specs.OrderLaws.{first_part, keyed_run}
use Rattle.ks_base.specs.Orders.{imply_cmp}
use Rattle.ks_base.specs.Runs.{IsRun}
use Rattle.ks_base.specs.Tables.{id_cmp}

pub prior_run : (prior : List ℕ) → IsRun imply_cmp (λ row. id_cmp row.prior prior)
prior_run =
    keyed_run id_cmp (λ (row : ImplyRow). row.prior) imply_cmp nat_list_cmp_total (λ a b less. first_part (id_cmp a.prior b.prior) (id_cmp a.implied b.implied) less)
