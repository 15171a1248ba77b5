-- Whose codes fit, and which methods suffice (TOTP, RFC 6238).
-- Source: RFC 6238; Identity API v3, multi-factor authentication rules.
use Rattle.std.specs.Prelude.{ℕ, ◌==◌, Bool, true, not, ◌&&◌, ◌||◌, List, [], ◌∷◌, Option, Some, None, bit_and, filter}
use Rattle.std.specs.List.{list_any}
use Rattle.ks_base.specs.declared.factors.MfaRow.{MfaRow}
use Rattle.ks_base.specs.Factors.{FactorState, is_secret_of, rules_of}
use Rattle.ks_base.specs.Rows.{Id}
use Rattle.ks_totp.specs.Hotp.{fits_at}

-- | what contracts see of `Factors`: its lists, and room for rules
pub record Kept : Type 0 where
  pub state : FactorState
  -- how many rows of rules may be put before there is a need of more room
  pub room : ℕ

-- the secrets and the rules of users that pass
abbrev pub of_users : (Id → Bool) → FactorState → FactorState
of_users passes state = record {
  secrets = filter (λ row. passes row.user) state.secrets;
  rules = filter (λ row. passes row.user) state.rules;
}

-- some secret of the user gives the code at the moment, or 30 seconds before
abbrev pub fits : FactorState → Id → ℕ → ℕ → Bool
fits state user code moment = list_any (λ row. is_secret_of user row && fits_at row.secret code moment) state.secrets

-- the methods of a rule are all in the set
abbrev pub is_within : ℕ → ℕ → Bool
is_within methods rule = bit_and rule methods == rule

-- | no rules ask for nothing, and of others one has to be met
abbrev pub some_met : ℕ → List ℕ → Bool
some_met methods [] = true
some_met methods (rule ∷ rules) = list_any (is_within methods) (rule ∷ rules)

abbrev pub row_met : ℕ → Option MfaRow → Bool
row_met methods None = true
row_met methods (Some row) = not row.enabled || some_met methods row.rules

-- the rules of the user, if it has any that are enabled, are met by the methods of the set
abbrev pub met : FactorState → Id → ℕ → Bool
met state user methods = row_met methods (rules_of user state.rules)
