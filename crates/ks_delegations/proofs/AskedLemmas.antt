-- The roles that a body names, one after the other.
use Rattle.std.proofs.Common.{List, ◌++◌}
use Rattle.ks_base.specs.Rows.{Id}
use Rattle.ks_machine.specs.Attempts.{Attempt, Go, ◌>>=◌}
use Rattle.ks_machine.specs.declared.cause.Cause.{Cause}

-- with those that were found before
abbrev pub behind : List Id → Attempt Cause (List Id) → Attempt Cause (List Id)
behind ids said = said >>= (λ more. Go (ids ++ more))
