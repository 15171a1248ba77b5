use Rattle.std.proofs.Common.{◌∙◌, sym, ap, subst, arith, take, drop, not}
use Rattle.std.specs.Prelude.{IsUtf8}
use Rattle.std.proofs.lemmas.List.Sums.{prefix_len-le-length}
use Rattle.ks_rule.specs.Tokens.{is_space}
use Rattle.ks_rule.proofs.TokenLemmas.{utf8_word, utf8_rest}
use Rattle.ks_rule.proofs.tokens.cut_word.Goals as goal

pub split_at-requires : goal.split_at-requires
split_at-requires c = omega (arith, c.word_len.ensures, prefix_len-le-length (λ b. not (is_space b)) c.args.text.now)

pub returns-clause-utf8 : goal.returns-clause-utf8
returns-clause-utf8 c =
    subst IsUtf8 (sym (c.split_at.ensures.front ∙ ap (λ n. take n c.args.text.now) c.word_len.ensures)) (utf8_word c.args.text.now c.requires)

pub returns-clause-utf8_behind : goal.returns-clause-utf8_behind
returns-clause-utf8_behind c =
    subst IsUtf8 (sym (c.split_at.ensures.back ∙ ap (λ n. drop n c.args.text.now) c.word_len.ensures)) (utf8_rest c.args.text.now c.requires)
