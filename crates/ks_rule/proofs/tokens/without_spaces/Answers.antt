use Rattle.std.proofs.Common.{◌∙◌, sym, ap, subst}
use Rattle.std.specs.Prelude.{IsUtf8}
use Rattle.ks_rule.specs.Tokens.{tokens}
use Rattle.ks_rule.proofs.TokenLemmas.{tokens_space, utf8_tail}
use Rattle.ks_rule.proofs.tokens.without_spaces.Goals as goal

pub loop-first-preserved : goal.loop-first-preserved
loop-first-preserved c =
    let is_more = c.in-Some.ensures.cases.0 in
    let space = sym c.is_space.ensures ∙ c.if-not-is_space.false in
    record {
      same = sym (ap tokens is_more ∙ tokens_space c.in-Some.first.now c.in-Some.behind.now space) ∙ c.loop-first.invariant.same;
      utf8 = utf8_tail c.in-Some.first.now c.in-Some.behind.now space (subst IsUtf8 is_more c.loop-first.invariant.utf8);
    }
