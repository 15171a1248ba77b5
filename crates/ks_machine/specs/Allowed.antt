-- Which actions the rules of a policy allow.
-- Source: oslo.policy.
use Rattle.std.specs.Prelude.{ℕ, zero, suc, Bool, false, List, length}
use Rattle.ks_rule.specs.declared.credentials.Credentials.{Credentials}
use Rattle.ks_rule.specs.Kinds.{Fields}
use Rattle.ks_rule.specs.Truth.{truth}
use Rattle.ks_machine.specs.Openings.{NamedRule}
use Rattle.ks_machine.specs.Rules.{tree_named}

-- whether the rule of a name holds after so many rounds: in none no rule holds, and in one more it holds where its
-- tree does, with the round before for the names in it
unfoldable pub holds_in : ℕ → List NamedRule → Credentials → Fields → List ℕ → Bool
holds_in zero rules creds target name = false
holds_in (suc n) rules creds target name = truth (holds_in n rules creds target) (tree_named rules name) creds target

-- whether the rule of an action holds: after no round none does, and after one more a name holds where its tree did before; as many rounds
-- as there are rules suffice, where no rule reaches itself
unfoldable pub allowed : List NamedRule → List ℕ → Credentials → Fields → Bool
allowed rules action creds target = holds_in (length rules) rules creds target action
