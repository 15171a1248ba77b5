use Rattle.std.proofs.Common.{◌≡◌, ◌∷◌}
use Rattle.ks_drill.specs.Openings.{admin, each_below, role_id, role_named}
use Rattle.ks_drill.proofs.opening.roles.Given as goal

abbrev pub invariant-loop-number : goal.invariant-loop-number
invariant-loop-number l = l.roles ≡ role_named admin ∷ each_below (λ number. role_named (role_id number)) l.number
