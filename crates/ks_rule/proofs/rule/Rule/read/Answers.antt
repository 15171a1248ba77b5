use Rattle.std.proofs.Common.{◌∙◌, sym}
use Rattle.ks_rule.proofs.FillingLemmas.{some_is}
use Rattle.ks_rule.proofs.GrammarLemmas.{never_rule}
use Rattle.ks_rule.proofs.rule.Rule.read.Goals as goal

pub returns-in-Err-Unreadable : goal.returns-in-Err-Unreadable
returns-in-Err-Unreadable c =
    let none = rw c.in-Err-Unreadable.field-0-is at c.in-Err-Unreadable.ensures in
    never_rule c.args.text.now (some_is c.args.text.now (sym c.is_empty.ensures ∙ c.if-is_empty.false)) none
