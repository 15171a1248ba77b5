use Rattle.std.proofs.Common.{◌≡◌, ◌++◌, filter}
use Rattle.ks_auth.specs.Answers.{rows_told}
use Rattle.ks_machine.specs.Members.{has_grant}
use Rattle.ks_relations.proofs.grants.roles_granted.Given as goal

abbrev pub invariant-loop-role : goal.invariant-loop-role
invariant-loop-role l =
    l.found ++ filter (λ role. has_grant (rows_told l.tables) l.who l.at l.inherited role.id) l.role-iterator
    ≡ filter (λ role. has_grant (rows_told l.tables) l.who l.at l.inherited role.id) l.tables.roles.now.roles
