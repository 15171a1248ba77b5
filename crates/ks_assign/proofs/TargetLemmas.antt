-- The grants at a target, by the order of targets.
use Rattle.std.proofs.Common.{◌≡◌, not, List, refl, ap}
use Rattle.std.specs.List.{filter}
use Rattle.std.specs.Ordering.{is_eq}
use Rattle.ks_base.specs.declared.grants.GrantRow.{GrantRow}
use Rattle.ks_base.specs.declared.grants.Target.{Target}
use Rattle.ks_base.specs.declared.grants.Target.TheVariants as target
use Rattle.ks_base.specs.Grants.{same_target, is_at_target}
use Rattle.ks_base.specs.Orders.{target_cmp}
use Rattle.ks_base.proofs.ListLemmas.{filter_alike}
use Rattle.ks_base.proofs.RowLemmas.{id_same}

target_same : (a b : Target) → is_eq (target_cmp a b) ≡ same_target a b
target_same (target.Project a) (target.Project b) = id_same a b
target_same (target.Project a) (target.Domain b) = refl
target_same (target.Project a) target.System = refl
target_same (target.Domain a) (target.Project b) = refl
target_same (target.Domain a) (target.Domain b) = id_same a b
target_same (target.Domain a) target.System = refl
target_same target.System (target.Project b) = refl
target_same target.System (target.Domain b) = refl
target_same target.System target.System = refl

pub at_target : (place : Target) (rows : List GrantRow) → filter (λ row. is_eq (target_cmp row.target place)) rows ≡ filter (is_at_target place) rows
at_target place rows = filter_alike (λ row. is_eq (target_cmp row.target place)) (is_at_target place) rows (λ row among. target_same row.target place)

pub not_at_target : (place : Target) (rows : List GrantRow) →
    filter (λ row. not (is_eq (target_cmp row.target place))) rows ≡ filter (λ row. not (is_at_target place row)) rows
not_at_target place rows =
    filter_alike (λ row. not (is_eq (target_cmp row.target place))) (λ row. not (is_at_target place row)) rows (λ row among. ap not (target_same row.target place))
