use Rattle.std.proofs.Common.{◌≡◌, ◌++◌, drop}
use Rattle.ks_auth.specs.Answers.{rows_told}
use Rattle.ks_machine.specs.Assignments.{given_to}
use Rattle.ks_relations.proofs.effective.given_to.Given as goal

abbrev pub invariant-loop-at : goal.invariant-loop-at
invariant-loop-at l = l.rows ++ given_to (rows_told l.tables) l.user (drop l.at-index l.targets) ≡ given_to (rows_told l.tables) l.user l.targets
