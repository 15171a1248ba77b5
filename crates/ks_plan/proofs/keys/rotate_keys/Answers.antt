use Rattle.std.proofs.Common.{ap, ◌∙◌}
use Rattle.ks_base.specs.declared.receipt.Drawn.TheVariants.{Bytes}
use Rattle.ks_plan.specs.KeysTold.{indices_rotated, keys_told}
use Rattle.ks_plan.proofs.KeyLemmas.{rotated_by}
use Rattle.ks_plan.proofs.keys.rotate_keys.Goals as goal

pub returns : goal.returns
returns c S tells =
    rotated_by S (Bytes c.args.drawn.now) c.args.tables.now.ring.now c.args.tables.now.settings.now c.key.result c.in_ok-indices.indices c.in_ok-told.told c.changes.result
    tells.settings tells.ring c.in_ok-need.ensures c.in_ok-is_below_end.ensures c.key.ensures
    (c.in_ok-indices.ensures ∙ ap (λ held. indices_rotated held c.args.tables.now.settings.now.max_keys) c.held.ensures.held)
    (c.in_ok-told.ensures ∙ ap keys_told c.as_slice.ensures) c.changes.ensures
