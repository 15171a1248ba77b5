use Rattle.std.proofs.Common.{◌≡◌, [], ◌∷◌, lit<, subst, ◌∙◌, ap}
use Rattle.std.specs.Prelude.{IsUtf8}
use Rattle.ks_rule.proofs.TokenLemmas.{next_none, next_opening, utf8_behind}
use Rattle.ks_rule.proofs.tokens.Tokens.next_token.Goals as goal

pub returns-in_default-clause-next : goal.returns-in_default-clause-next
returns-in_default-clause-next c =
    next_none c.self.inside.closes c.self.inside.rest.now c.without_spaces-rest.result.now c.args.self.now c.self.view_is c.if-self-gt0.false c.without_spaces-rest.ensures.same c.in_default.ensures.cases

pub invariant_of-self-then-first-eq40 : goal.invariant_of-self-then-first-eq40
invariant_of-self-then-first-eq40 c =
    let opens : c.without_spaces-rest.result.now ≡ 40 ∷ c.in-Some.behind.now = c.in-Some.ensures.cases.0 ∙ ap (λ b. b ∷ c.in-Some.behind.now) c.if-first-eq40.true in
    utf8_behind [] c.in-Some.behind.now 40 (subst IsUtf8 opens c.without_spaces-rest.ensures.utf8) (lit< tt)

pub returns-then-first-eq40-clause-next : goal.returns-then-first-eq40-clause-next
returns-then-first-eq40-clause-next c =
    next_opening c.self.inside.closes c.self.inside.rest.now c.without_spaces-rest.result.now c.args.self.now c.self.view_is c.if-self-gt0.false c.without_spaces-rest.ensures.same
    c.in-Some.first.now c.in-Some.behind.now c.in-Some.ensures.cases.0 c.if-first-eq40.true
