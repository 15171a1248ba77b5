use Rattle.std.proofs.Common.{◌≡◌, take, map}
use Rattle.ks_policy.specs.Defaults.{text_of}
use Rattle.ks_policy.proofs.load.default_texts.Given as goal

abbrev pub invariant-loop-rule : goal.invariant-loop-rule
invariant-loop-rule l = l.texts.items ≡ map text_of (take l.rule-index l.rule-items)
