use Rattle.std.proofs.Common.{◌≡◌, ◌-◌, length}
use Rattle.std.specs.List.{find}
use Rattle.ks_base.specs.Tree.{above_within, above}
use Rattle.ks_tree.proofs.tree.Tree.nearest_above.Given as goal

abbrev pub invariant-up : goal.invariant-up
invariant-up g l = record {
  end : l.end ≡ length l.self.projects;
  rest : find (g.T.Test.test l.test) (above_within (l.end - l.counter) l.self.projects l.top) ≡ find (g.T.Test.test l.test) (above l.self.projects l.row);
}
