use Rattle.std.proofs.Common.{◌∙◌, sym, length, eqb-true}
use Rattle.ks_base.proofs.ListLemmas.{above_zero}
use Rattle.ks_rule.specs.Seen.{seen}
use Rattle.ks_rule.proofs.TokenLemmas.{next_closing, next_kept}
use Rattle.ks_rule.proofs.tokens.Tokens.next_of_word.Goals as goal

pub returns-then-is_empty-clause-next : goal.returns-then-is_empty-clause-next
returns-then-is_empty-clause-next c =
    let none = eqb-true (length c.without_closes-kept.result.now) 0 (sym c.is_empty.ensures ∙ c.if-is_empty.true) in
    let next =
    next_closing c.args.text.now c.cut_word.result.0.now c.cut_word.result.1.now c.without_closes-kept.result.now c.requires.word c.cut_word.ensures.word c.cut_word.ensures.behind c.without_closes-kept.ensures.kept none
    in
    next.1

pub returns-clause-next : goal.returns-clause-next
returns-clause-next c =
    let some = above_zero (length c.without_closes-kept.result.now) (sym c.is_empty.ensures ∙ c.if-is_empty.false) in
    let next =
    next_kept c.args.text.now c.cut_word.result.0.now c.cut_word.result.1.now c.without_closes-kept.result.now (seen c.of.result) c.requires.word c.cut_word.ensures.word c.cut_word.ensures.behind c.without_closes-kept.ensures.kept some c.of.ensures.seen
    in
    next
