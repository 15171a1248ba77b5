use Rattle.std.proofs.Common.{◌≡◌, ◌-◌, ◌++◌, length, map}
use Rattle.ks_base.specs.Tree.{above_within, ancestors}
use Rattle.ks_tree.proofs.tree.Tree.ancestors.Given as goal

abbrev pub invariant-up : goal.invariant-up
invariant-up l = record {
  end : l.end ≡ length l.self.projects;
  rest : l.ids ++ map (λ row. row.id) (above_within (l.end - l.counter) l.self.projects l.top) ≡ ancestors l.self.projects l.id;
}
