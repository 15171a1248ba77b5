-- Whether the rule at a place holds.
-- Source: oslo.policy.
use Rattle.std.specs.Prelude.{ℕ, Bool, List}
use Rattle.ks_rule.specs.declared.credentials.Credentials.{Credentials}
use Rattle.ks_rule.specs.Kinds.{Fields}
use Rattle.ks_rule.specs.Truth.{truth}
use Rattle.ks_machine.specs.Allowed.{allowed}
use Rattle.ks_machine.specs.Openings.{NamedRule}
use Rattle.ks_machine.specs.Rules.{tree_at}

-- whether the rule at a place holds
abbrev pub holds_at : List NamedRule → ℕ → Credentials → Fields → Bool
holds_at rules at creds target = truth (λ name. allowed rules name creds target) (tree_at rules at) creds target
