use Rattle.std.proofs.Common.{◌≡◌, ◌∙◌, sym, ap, subst, [], ◌∷◌, ◌++◌, lit<}
use Rattle.std.specs.Prelude.{IsUtf8}
use Rattle.ks_rule.specs.Tokens.{without_closes}
use Rattle.ks_rule.proofs.TokenLemmas.{without_closes_push, utf8_front}
use Rattle.ks_rule.proofs.tokens.without_closes.Goals as goal

pub loop-front-preserved : goal.loop-front-preserved
loop-front-preserved c =
    let front = c.in-Some-eq41-default.front.now in
    let is : c.loop-front.kept.now ≡ front ++ 41 ∷ [] = c.in-Some-eq41-default.ensures.cases.0 ∙ ap (λ b. front ++ b ∷ []) c.in-Some-eq41-default.field-0-0-test in
    record {
      same = sym (ap without_closes is ∙ without_closes_push front) ∙ c.loop-front.invariant.same;
      utf8 = utf8_front front [] 41 (subst IsUtf8 is c.loop-front.invariant.utf8) (lit< tt);
    }
