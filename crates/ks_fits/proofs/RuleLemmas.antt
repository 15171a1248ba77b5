-- Rules of second factors, each tested by itself.
use Rattle.std.proofs.Common.{◌≡◌, ◌↔◌, ◌⊎◌, inl, inr, ℕ, ◌==◌, ◌||◌, Bool, true, List, [], ◌∷◌, refl, arith}
use Rattle.std.specs.List.{AllByRecursion, list_all}
use Rattle.std.proofs.lemmas.Bool.Decides.{nat_tests}
use Rattle.ks_machine.specs.Ranges.{IsMfaRule}

abbrev is_rule : ℕ → Bool
is_rule rule = ((rule == 1) || (rule == 4)) || (rule == 5)

passes : (rule : ℕ) → (is_rule rule ≡ true) ↔ IsMfaRule rule
passes rule = grind (arith, nat_tests)

pub all_rules : (rules : List ℕ) → (list_all is_rule rules ≡ true) ↔ AllByRecursion IsMfaRule rules
all_rules [] = (λ all. tt, λ all. refl)
all_rules (rule ∷ rules) = grind (arith, passes rule, all_rules rules)
