use Rattle.std.proofs.Common.{◌≡◌, drop}
use Rattle.ks_json.specs.View.{items_view}
use Rattle.ks_shape.specs.Names.{all_named}
use Rattle.ks_shape.proofs.NameLemmas.{behind}
use Rattle.ks_shape.proofs.names.all_named.Given as goal

abbrev pub invariant-loop-value : goal.invariant-loop-value
invariant-loop-value l =
    behind l.rows (all_named l.path (items_view (drop l.value-index l.values))) ≡ all_named l.path (items_view l.values)
