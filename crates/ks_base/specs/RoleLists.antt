-- Roles in the order of their ids, and implications in the order in which they are shown.
-- Source: Identity API v3, roles and implied roles.
use Rattle.std.specs.Prelude.{Bool, not, ◌||◌, List, map, filter, is_some}
use Rattle.ks_base.specs.declared.rows.RoleRow.{RoleRow}
use Rattle.ks_base.specs.declared.grants.ImplyRow.{ImplyRow}
use Rattle.ks_base.specs.Rows.{Id, Text, same}
use Rattle.ks_base.specs.Orders.{imply_cmp}
use Rattle.ks_base.specs.Tables.{id_cmp, find_row, put_row, drop_row}

-- | roles and implications as lists
pub record RolesState : Type 0 where
  pub roles : List RoleRow
  pub implications : List ImplyRow

-- names are unique among roles
abbrev pub is_named : Text → RoleRow → Bool
is_named name row = same row.name name

-- | an implication names a role
abbrev pub names_role : Id → ImplyRow → Bool
names_role id row = same row.prior id || same row.implied id

-- the role implies another by this row
abbrev pub is_of_prior : Id → ImplyRow → Bool
is_of_prior prior row = same row.prior prior

-- the roles that one implies directly
abbrev pub implied_ids : Id → List ImplyRow → List Id
implied_ids prior implications = map (λ row. row.implied) (filter (is_of_prior prior) implications)

-- an implication stands
abbrev pub is_implication : ImplyRow → List ImplyRow → Bool
is_implication row implications = is_some (find_row imply_cmp (λ next. next) row implications)

-- the states that changes make, with all other rows as they were
abbrev pub with_role : RoleRow → RolesState → RolesState
with_role row state = record state { roles = put_row id_cmp (λ r. r.id) row state.roles }

-- a role goes with every implication that names it
abbrev pub without_role : Id → RolesState → RolesState
without_role id state = record {
  roles = drop_row id_cmp (λ r. r.id) id state.roles;
  implications = filter (λ row. not (names_role id row)) state.implications;
}

-- the state with an implication, and without it
abbrev pub with_implication : ImplyRow → RolesState → RolesState
with_implication row state = record state { implications = put_row imply_cmp (λ next. next) row state.implications }

abbrev pub without_implication : ImplyRow → RolesState → RolesState
without_implication row state = record state { implications = drop_row imply_cmp (λ next. next) row state.implications }
