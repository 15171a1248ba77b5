use Rattle.std.proofs.Common.{◌≡◌, ◌++◌, map, drop}
use Rattle.ks_effective.proofs.reach.GrantsOf.add_at.Given as goal

abbrev pub invariant-loop-row : goal.invariant-loop-row
invariant-loop-row l = l.roles ++ map (λ row. row.role) (drop l.row-index l.standing) ≡ l.fn.roles ++ map (λ row. row.role) l.standing
