use Rattle.std.proofs.Common.{◌≡◌, [], take, drop}
use Rattle.ks_machine.specs.Opened.{first_in}
use Rattle.ks_opening.proofs.check.check_each.Given as goal

abbrev pub invariant-loop-row : goal.invariant-loop-row
invariant-loop-row g l = record {
  items : l.row-items ≡ l.rows;
  rest : first_in (λ before. g.C.Check.fault l.check) (take l.row-index l.rows) (drop l.row-index l.rows) ≡ first_in (λ before. g.C.Check.fault l.check) [] l.rows;
}
