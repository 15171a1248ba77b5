use Rattle.std.proofs.Common.{◌≡◌, drop, take}
use Rattle.std.specs.Prelude.{option_map}
use Rattle.ks_json.specs.View.{view}
use Rattle.ks_shape.specs.Places.{names_in, path_below, value_below}
use Rattle.ks_shape.proofs.node.Node.value_at.Given as goal

abbrev pub invariant-loop-passed : goal.invariant-loop-passed
invariant-loop-passed l =
    value_below (path_below l.self.path (names_in (take l.passed l.names))) (names_in (drop l.passed l.names)) (option_map (λ v. view v.now) l.value)
    ≡ value_below l.self.path (names_in l.names) (option_map (λ v. view v.now) l.self.value)
