-- The roles so far, and those that are left.
use Rattle.std.proofs.Common.{◌≡◌, ◌++◌, filter}
use Rattle.ks_base.specs.Rows.{has_id}
use Rattle.ks_delegations.proofs.trusts.roles_among.Given as goal

abbrev pub invariant-loop-role : goal.invariant-loop-role
invariant-loop-role l = l.roles ++ filter (λ role. has_id l.ids role.id) l.role-iterator ≡ filter (λ role. has_id l.ids role.id) l.fn.rows
