use Rattle.std.proofs.Common.{◌≡◌, ◌+◌, ◌-◌, ◌≤◌, length}
use Rattle.ks_base.specs.Tree.{above, above_within}
use Rattle.ks_opening.proofs.listed.Listed.count_above.Given as goal

abbrev pub invariant-up : goal.invariant-up
invariant-up l = record {
  counted : l.count ≤ l.counter;
  end : l.end ≡ length l.self.projects;
  rest : l.count + length (above_within (l.end - l.counter) l.self.projects l.top) ≡ length (above l.self.projects l.row);
}
