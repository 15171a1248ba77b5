-- The names so far, and those of the roles that are left.
use Rattle.std.proofs.Common.{◌≡◌, ◌++◌, drop, map}
use Rattle.ks_auth.specs.Answers.{rows_told}
use Rattle.ks_machine.specs.Scopes.{titled_role}
use Rattle.ks_targets.proofs.credentials.role_names.Given as goal

abbrev pub invariant-loop-id : goal.invariant-loop-id
invariant-loop-id l =
    l.names ++ map (λ id. (titled_role (rows_told l.tables) id).name) (drop l.id-index l.roles)
    ≡ map (λ id. (titled_role (rows_told l.tables) id).name) l.roles
