-- The fields so far, and those of the names that are left.
use Rattle.std.proofs.Common.{◌≡◌, ◌++◌, drop, map}
use Rattle.ks_machine.specs.Targets.{of_filter}
use Rattle.ks_targets.proofs.targets.put_filter.Given as goal

abbrev pub invariant-loop-name : goal.invariant-loop-name
invariant-loop-name l =
    l.fields ++ of_filter (map (λ name. name.now) (drop l.name-index l.names)) l.filters
    ≡ l.initial.fields ++ of_filter (map (λ name. name.now) l.names) l.filters
