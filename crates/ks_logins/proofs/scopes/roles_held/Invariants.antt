-- The roles that are left decide.
use Rattle.std.proofs.Common.{◌≡◌, drop}
use Rattle.ks_machine.specs.Attempts.{each}
use Rattle.ks_logins.specs.Logins.{role_held}
use Rattle.ks_logins.proofs.scopes.roles_held.Given as goal

abbrev pub invariant-loop-role : goal.invariant-loop-role
invariant-loop-role l = each (role_held l.held) (drop l.role-index l.roles) ≡ each (role_held l.held) l.roles
