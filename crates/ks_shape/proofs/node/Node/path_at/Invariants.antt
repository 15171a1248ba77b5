use Rattle.std.proofs.Common.{◌≡◌, drop}
use Rattle.std.specs.Prelude.{string_bytes}
use Rattle.ks_shape.specs.Places.{names_in, path_below}
use Rattle.ks_shape.proofs.node.Node.path_at.Given as goal

abbrev pub invariant-loop-name : goal.invariant-loop-name
invariant-loop-name l =
    path_below (string_bytes l.path) (names_in (drop l.name-index l.names)) ≡ path_below l.fn.self.path (names_in l.names)
