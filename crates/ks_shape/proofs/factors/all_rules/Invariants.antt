use Rattle.std.proofs.Common.{◌≡◌, drop}
use Rattle.ks_json.specs.View.{items_view}
use Rattle.ks_shape.specs.Factors.{mfa_rule}
use Rattle.ks_shape.specs.Types.{each_read}
use Rattle.ks_shape.proofs.NameLemmas.{behind}
use Rattle.ks_shape.proofs.factors.all_rules.Given as goal

abbrev pub invariant-loop-item : goal.invariant-loop-item
invariant-loop-item l =
    behind l.rules.items (each_read mfa_rule (items_view (drop l.item-index l.items))) ≡ each_read mfa_rule (items_view l.items)
