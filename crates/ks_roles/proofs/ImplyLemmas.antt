-- The implications of a role, found by where they begin and end, ascend by the implied role.
use Rattle.std.proofs.Common.{◌≡◌, ℕ, List, map, filter, ap, ◌∙◌}
use Rattle.std.specs.Ordering.{is_eq}
use Rattle.ks_base.specs.declared.grants.ImplyRow.{ImplyRow}
use Rattle.ks_base.specs.Orders.{imply_cmp}
use Rattle.ks_base.specs.RoleLists.{implied_ids, is_of_prior}
use Rattle.ks_base.specs.Tables.{id_cmp, IsAscending}
use Rattle.ks_base.proofs.ListLemmas.{filter_alike}
use Rattle.ks_base.proofs.PairLemmas.{second_ascends}
use Rattle.ks_base.proofs.RowLemmas.{id_same}

pub implied_found : (prior : List ℕ) (implications rows : List ImplyRow) → rows ≡ filter (λ row. is_eq (id_cmp row.prior prior)) implications →
    map (λ row. row.implied) rows ≡ implied_ids prior implications
implied_found prior implications rows is =
    ap (map (λ (row : ImplyRow). row.implied))
    (is ∙ filter_alike (λ row. is_eq (id_cmp row.prior prior)) (is_of_prior prior) implications (λ row among. id_same row.prior prior))

pub implied_ascend : (prior : List ℕ) (implications : List ImplyRow) → IsAscending imply_cmp (λ next. next) implications →
    IsAscending id_cmp (λ id. id) (implied_ids prior implications)
implied_ascend = second_ascends (λ row. row.prior) (λ row. row.implied)
