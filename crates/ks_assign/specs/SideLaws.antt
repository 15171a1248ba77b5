-- The order of grants as their targets see them is total, what it holds equal is the same, and the grants at a target stand side by side in it.
use Rattle.std.proofs.Common.{◌≡◌, ◌⊎◌, sym, ap, ◌∙◌}
use Rattle.std.specs.declared.cmp.Ordering.{Ordering}
use Rattle.std.specs.declared.cmp.Ordering.TheVariants.{Less, Equal}
use Rattle.std.specs.Ordering.{ordering_then}
use Rattle.std.specs.Cmp.{IsTotalOrder}
use Rattle.std.proofs.lemmas.Cmp.{then_total, on_total, tied_back}
use Rattle.ks_base.specs.declared.grants.Target.{Target}
use Rattle.ks_base.specs.Orders.{grant_cmp, target_cmp}
use Rattle.ks_base.specs.OrderLaws.{first_part, grant_exact, grant_total, keyed_alone, keyed_run, keyed_whole, target_total, then_equal}
use Rattle.ks_base.specs.Runs.{IsRun}
use Rattle.ks_assign.specs.declared.by_target.ByTarget.{ByTarget}
use Rattle.ks_assign.specs.Sides.{by_target_cmp}

pub by_target_exact : (a b : ByTarget) → by_target_cmp a b ≡ Equal → a ≡ b
by_target_exact a b e =
    let both = then_equal (target_cmp a.row.target b.row.target) (grant_cmp a.row b.row) e in
    let row = grant_exact a.row b.row both.1 in
    λ i. record { row = row i }

pub by_target_total : IsTotalOrder by_target_cmp
by_target_total = then_total (on_total (λ side. side.row.target) target_total) (on_total (λ side. side.row) grant_total)

pub of_targets_total : IsTotalOrder (λ (a b : ByTarget). target_cmp a.row.target b.row.target)
of_targets_total = on_total (λ side. side.row.target) target_total

pub target_first : (a b : ByTarget) → by_target_cmp a b ≡ Less → (target_cmp a.row.target b.row.target ≡ Less) ⊎ (target_cmp a.row.target b.row.target ≡ Equal)
target_first a b less = first_part (target_cmp a.row.target b.row.target) (grant_cmp a.row b.row) less

pub target_run : (target : Target) → IsRun by_target_cmp (λ side. target_cmp side.row.target target)
target_run = keyed_run target_cmp (λ (side : ByTarget). side.row.target) by_target_cmp target_total target_first

pub target_whole : (target : Target) (a b : ByTarget) → target_cmp a.row.target b.row.target ≡ Equal → target_cmp a.row.target target ≡ target_cmp b.row.target target
target_whole = keyed_whole target_cmp (λ side. side.row.target) target_total

pub target_alone : (target : Target) (a b : ByTarget) → target_cmp a.row.target target ≡ Equal → target_cmp b.row.target target ≡ Equal →
    target_cmp a.row.target b.row.target ≡ Equal
target_alone = keyed_alone target_cmp (λ side. side.row.target) target_total

-- and in the order of all grants there
pub target_within : (target : Target) (a b : ByTarget) → target_cmp a.row.target target ≡ Equal → target_cmp b.row.target target ≡ Equal → by_target_cmp a b ≡ Less →
    grant_cmp a.row b.row ≡ Less
target_within target a b is also less =
    let tied : target_cmp a.row.target b.row.target ≡ Equal = target_total.congr a.row.target target b.row.target is ∙ tied_back target_total b.row.target target also in
    ap (λ o. ordering_then o (grant_cmp a.row b.row)) (sym tied) ∙ less
