use Rattle.std.proofs.Common.{◌≡◌, ◌++◌, drop}
use Rattle.ks_effective.specs.Granted.{roles_over}
use Rattle.ks_effective.specs.Reach.{on_projects}
use Rattle.ks_effective.proofs.reach.GrantsOf.add_on_projects.Given as goal

abbrev pub invariant-loop-id : goal.invariant-loop-id
invariant-loop-id l =
    l.roles ++ roles_over l.self.rows.now (on_projects l.self.actor (drop l.id-index l.projects)) ≡ l.fn.roles ++ roles_over l.self.rows.now (on_projects l.self.actor l.projects)
