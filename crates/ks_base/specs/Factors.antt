-- Second factors of users: secrets from which codes are made (RFC 6238), and rules of the methods that a user has to
-- log in by. Both stand in the order of ids.
-- Source: Identity API v3, credentials of type `totp`; own limits.
use Rattle.std.specs.Prelude.{nat_le, Bool, not, List, [], ◌∷◌, length, filter, map, Option, is_some, is_none}
use Rattle.ks_base.specs.declared.factors.MfaRow.{MfaRow}
use Rattle.ks_base.specs.declared.factors.SecretRow.{SecretRow}
use Rattle.ks_base.specs.declared.faults.RowFault.{RowFault}
use Rattle.ks_base.specs.declared.faults.RowFault.TheVariants as fault
use Rattle.ks_base.specs.declared.kinds.Kind.TheVariants as kind
use Rattle.ks_base.specs.Limits.{limit}
use Rattle.ks_base.specs.Refusals.{fault_if, first_of}
use Rattle.ks_base.specs.Rows.{Id, same}
use Rattle.ks_base.specs.Tables.{id_cmp, find_row, put_row, drop_row}

-- | the secrets of codes and the rules of methods, as lists
pub record FactorState : Type 0 where
  pub secrets : List SecretRow
  pub rules : List MfaRow

-- the secret of an id, the rules of a user; a secret is a user's
abbrev pub secret_of : Id → List SecretRow → Option SecretRow
secret_of id secrets = find_row id_cmp (λ row. row.id) id secrets

abbrev pub rules_of : Id → List MfaRow → Option MfaRow
rules_of user rules = find_row id_cmp (λ row. row.user) user rules

abbrev pub is_secret_of : Id → SecretRow → Bool
is_secret_of user row = same row.user user

-- the ids of all secrets
abbrev pub secret_ids : FactorState → List Id
secret_ids state = map (λ row. row.id) state.secrets

-- the states that changes make, with all other rows as they were
abbrev pub with_secret : SecretRow → FactorState → FactorState
with_secret row state = record state { secrets = put_row id_cmp (λ r. r.id) row state.secrets }

abbrev pub without_secret : Id → FactorState → FactorState
without_secret id state = record state { secrets = drop_row id_cmp (λ r. r.id) id state.secrets }

abbrev pub with_rules : MfaRow → FactorState → FactorState
with_rules row state = record state { rules = put_row id_cmp (λ r. r.user) row state.rules }

-- a user goes with all its secrets and its rules
abbrev pub without_factors : Id → FactorState → FactorState
without_factors user state = record {
  secrets = filter (λ row. not (is_secret_of user row)) state.secrets;
  rules = drop_row id_cmp (λ r. r.user) user state.rules;
}

-- why a change is refused: the first cause that applies
abbrev pub secrets_full : FactorState → Option RowFault
secrets_full state = fault_if (nat_le (limit kind.Secret) (length state.secrets)) (fault.Full kind.Secret)

abbrev pub secret_id_taken : FactorState → Id → Option RowFault
secret_id_taken state id = fault_if (is_some (secret_of id state.secrets)) (fault.IdTaken id)

abbrev pub secret_absent : FactorState → Id → Option RowFault
secret_absent state id = fault_if (is_none (secret_of id state.secrets)) (fault.Absent kind.Secret id)

-- the first cause that refuses a new secret (table full, id taken), and the end of one (absent)
unfoldable pub add_secret_fault : FactorState → SecretRow → Option RowFault
add_secret_fault state row = first_of (secrets_full state ∷ secret_id_taken state row.id ∷ [])

abbrev pub drop_secret_fault : FactorState → Id → Option RowFault
drop_secret_fault state id = secret_absent state id
