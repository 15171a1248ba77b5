use Rattle.std.proofs.Common.{ap, ◌∙◌}
use Rattle.ks_plan.specs.KeysTold.{keys_told}
use Rattle.ks_plan.proofs.KeyLemmas.{loaded_by}
use Rattle.ks_plan.proofs.keys.load_keys.Goals as goal

pub returns : goal.returns
returns c S tells =
    loaded_by S c.args.read.now c.args.tables.now.ring.now c.args.tables.now.settings.now c.in_ok-found.found.now c.in_ok-kept.kept c.in_ok-indices.indices
    c.in_ok-told.told c.changes.result tells.settings tells.ring c.in_ok-need.ensures c.in_ok-found.ensures c.in_ok-kept.ensures c.in_ok-indices.ensures
    (c.in_ok-told.ensures ∙ ap keys_told c.as_slice.ensures) c.changes.ensures
