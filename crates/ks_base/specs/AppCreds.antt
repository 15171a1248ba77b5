-- Application credentials: their rows in the order of their ids, and why a change of them is refused, the first cause that applies.
-- Source: Identity API v3, application credentials; own limits.
use Rattle.std.specs.Prelude.{nat_le, Bool, not, ◌&&◌, List, [], ◌∷◌, length, map, filter, find, Option, is_some, is_none, option_map}
use Rattle.ks_base.specs.declared.app_creds.AppCredRow.{AppCredRow}
use Rattle.ks_base.specs.declared.faults.RowFault.{RowFault}
use Rattle.ks_base.specs.declared.faults.RowFault.TheVariants as fault
use Rattle.ks_base.specs.declared.kinds.Kind.TheVariants as kind
use Rattle.ks_base.specs.Limits.{limit}
use Rattle.ks_base.specs.Refusals.{fault_if, first_of}
use Rattle.ks_base.specs.Rows.{Id, Text, same, has_id}
use Rattle.ks_base.specs.Tables.{id_cmp, find_row, put_row, drop_row}

-- | application credentials as a list
abbrev pub AppCredsState : Type 0
AppCredsState = List AppCredRow

-- the credential of an id, if one stands
abbrev pub cred_of : Id → AppCredsState → Option AppCredRow
cred_of id creds = find_row id_cmp (λ row. row.id) id creds

-- | a credential has this user and this name, which is unique among those of a user
abbrev pub is_cred_named : Id → Text → AppCredRow → Bool
is_cred_named user name row = same row.user user && same row.name name

-- the credential of a user and a name, if one stands
abbrev pub cred_named : Id → Text → AppCredsState → Option AppCredRow
cred_named user name creds = find (is_cred_named user name) creds

-- | a credential is of a user, on a project, or lists a role
abbrev pub is_of_user : Id → AppCredRow → Bool
is_of_user user row = same row.user user

abbrev pub is_on_project : Id → AppCredRow → Bool
is_on_project project row = same row.project project

abbrev pub lists_role : Id → AppCredRow → Bool
lists_role role row = has_id row.roles role

-- the ids of a user's credentials
abbrev pub creds_of : Id → AppCredsState → List Id
creds_of user creds = map (λ row. row.id) (filter (is_of_user user) creds)

-- the states that changes make, with all other rows as they were
abbrev pub with_cred : AppCredRow → AppCredsState → AppCredsState
with_cred row creds = put_row id_cmp (λ r. r.id) row creds

abbrev pub without_cred : Id → AppCredsState → AppCredsState
without_cred id creds = drop_row id_cmp (λ r. r.id) id creds

-- credentials go with their user, with their project, and with each role that they list
abbrev pub without_user : Id → AppCredsState → AppCredsState
without_user user creds = filter (λ row. not (is_of_user user row)) creds

abbrev pub without_project : Id → AppCredsState → AppCredsState
without_project project creds = filter (λ row. not (is_on_project project row)) creds

abbrev pub without_role : Id → AppCredsState → AppCredsState
without_role role creds = filter (λ row. not (lists_role role row)) creds

-- the causes
abbrev pub cred_name_taken : AppCredsState → AppCredRow → Option RowFault
cred_name_taken creds row = option_map (λ holder. fault.NameTaken holder.id) (cred_named row.user row.name creds)

abbrev pub creds_full : AppCredsState → Option RowFault
creds_full creds = fault_if (nat_le (limit kind.AppCred) (length creds)) (fault.Full kind.AppCred)

abbrev pub cred_id_taken : AppCredsState → Id → Option RowFault
cred_id_taken creds id = fault_if (is_some (cred_of id creds)) (fault.IdTaken id)

abbrev pub cred_absent : AppCredsState → Id → Option RowFault
cred_absent creds id = fault_if (is_none (cred_of id creds)) (fault.Absent kind.AppCred id)

-- the first cause that refuses a new credential (its user has one of this name, table full, id taken), and the end of one (absent)
unfoldable pub add_cred_fault : AppCredsState → AppCredRow → Option RowFault
add_cred_fault creds row = first_of (cred_name_taken creds row ∷ creds_full creds ∷ cred_id_taken creds row.id ∷ [])

abbrev pub drop_cred_fault : AppCredsState → Id → Option RowFault
drop_cred_fault creds id = cred_absent creds id
