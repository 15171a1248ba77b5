use Rattle.std.proofs.Common.{◌≡◌, ◌-◌, not, length}
use Rattle.std.specs.List.{find}
use Rattle.ks_base.specs.Tree.{above, above_within}
use Rattle.ks_opening.proofs.listed.Listed.first_disabled.Given as goal

abbrev pub invariant-up : goal.invariant-up
invariant-up l = record {
  end : l.end ≡ length l.self.projects;
  rest : find (λ row. not row.enabled) (above_within (l.end - l.counter) l.self.projects l.top) ≡ find (λ row. not row.enabled) (above l.self.projects l.row);
}
