-- Runs: rows that stand side by side in their order.
use Rattle.std.specs.Prelude.{◌≡◌}
use Rattle.std.specs.declared.cmp.Ordering.{Ordering}
use Rattle.std.specs.declared.cmp.Ordering.TheVariants.{Less, Greater}

-- | rows that stand side by side in an order: each row lies before them, is one of them or lies behind them, and none that comes first lies
-- farther back
pub record IsRun {X : Type 0} (cmp : X → X → Ordering) (side : X → Ordering) : Type 0 where
  pub before : (a b : X) → cmp a b ≡ Less → side b ≡ Less → side a ≡ Less
  pub behind : (a b : X) → cmp a b ≡ Less → side a ≡ Greater → side b ≡ Greater
