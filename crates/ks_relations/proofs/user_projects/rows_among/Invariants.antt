use Rattle.std.proofs.Common.{◌≡◌, ◌++◌, drop, map}
use Rattle.ks_auth.specs.Answers.{rows_told}
use Rattle.ks_machine.specs.declared.body_out.Row.TheVariants as row
use Rattle.ks_relations.specs.UserProjects.{projects_among}
use Rattle.ks_relations.proofs.user_projects.rows_among.Given as goal

abbrev pub invariant-loop-at : goal.invariant-loop-at
invariant-loop-at l =
    l.rows ++ map (λ project. row.Project project) (projects_among (rows_told l.tables) l.user (drop l.at-index l.targets))
    ≡ map (λ project. row.Project project) (projects_among (rows_told l.tables) l.user l.targets)
