use Rattle.std.proofs.Common.{◌≡◌, ◌<◌, ◌+◌, length, take, [], ◌∷◌, ◌++◌, sym, ◌∙◌, ap, arith}
use Rattle.std.proofs.lemmas.List.{take_more}
use Rattle.ks_policy.proofs.TextLemmas.{rules_next}
use Rattle.ks_policy.proofs.load.read_rules.Goals as goal

pub loop-row-preserved : goal.loop-row-preserved
loop-row-preserved c =
    let within : c.loop-row.row-index < length c.args.texts.now = omega arith in
    let taken : take (c.loop-row.row-index + 1) c.args.texts.now ≡ take c.loop-row.row-index c.args.texts.now ++ c.row-item.result ∷ [] =
    take_more c.args.texts.now c.loop-row.row-index c.row-item.result within
    ∙ ap (λ row. take c.loop-row.row-index c.args.texts.now ++ row ∷ []) (sym c.row-item.is) in
    rules_next _ _ _ _ c.row-item.result c.new.result c.in_ok-copy.field-0 c.as_slice.result.now _ c.loop-row.invariant taken
    c.in_ok-push.ensures.items c.new.ensures c.in_ok-copy.ensures c.as_slice.ensures.bytes c.in_ok-rule.ensures
