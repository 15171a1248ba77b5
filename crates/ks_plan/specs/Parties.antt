-- Whom a call admits, as the definitions see them.
use Rattle.std.specs.Prelude.{List, option_map, IfSome}
use Rattle.ks_base.specs.declared.users.UserRow.{UserRow}
use Rattle.ks_machine.specs.Admission as machine
use Rattle.ks_checks.specs.Plans.{valid_of}
use Rattle.ks_checks.specs.Tokens.{IsUsable}
use Rattle.ks_plan.specs.declared.allowed.Parties.{Parties}

abbrev pub parties_of : Parties → machine.Parties
parties_of who = record { caller = option_map valid_of who.caller; subject = option_map valid_of who.subject }

-- each has a payload with a spelling, and a user that stands
abbrev pub AreUsable : List UserRow → Parties → Type 0
AreUsable users who =
    IfSome who.caller (λ token. IsUsable users token.payload) × IfSome who.subject (λ token. IsUsable users token.payload)
