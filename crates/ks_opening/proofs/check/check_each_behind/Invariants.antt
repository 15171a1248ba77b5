use Rattle.std.proofs.Common.{◌≡◌, [], take, drop}
use Rattle.ks_machine.specs.Opened.{first_in}
use Rattle.ks_opening.proofs.check.check_each_behind.Given as goal

abbrev pub invariant-loop-at : goal.invariant-loop-at
invariant-loop-at g l = record {
  items : l.row-items ≡ l.rows;
  rest : first_in (g.C.CheckBehind.fault_behind l.check) (take l.at l.rows) (drop l.at l.rows) ≡ first_in (g.C.CheckBehind.fault_behind l.check) [] l.rows;
}
