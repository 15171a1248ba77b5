use Rattle.std.proofs.Common.{◌≡◌, ◌++◌, filter, drop}
use Rattle.ks_machine.specs.Assignments.{is_listed}
use Rattle.ks_relations.proofs.assignments.listed.Given as goal

abbrev pub invariant-loop-row : goal.invariant-loop-row
invariant-loop-row l = l.found ++ filter (is_listed l.fields) (drop l.row-index l.rows) ≡ filter (is_listed l.fields) l.rows
