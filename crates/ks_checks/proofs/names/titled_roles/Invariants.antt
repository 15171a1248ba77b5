use Rattle.std.proofs.Common.{◌≡◌, ◌++◌, drop}
use Rattle.ks_auth.specs.Answers.{rows_told}
use Rattle.ks_machine.specs.Scopes.{titled_roles}
use Rattle.ks_checks.proofs.names.titled_roles.Given as goal

abbrev pub invariant-loop-id : goal.invariant-loop-id
invariant-loop-id l = l.all ++ titled_roles (rows_told l.tables) (drop l.id-index l.ids) ≡ titled_roles (rows_told l.tables) l.ids
