-- Why a change of roles or implications is refused: the first cause that applies.
-- Source: Identity API v3, roles and implied roles.
use Rattle.std.specs.Prelude.{nat_le, Bool, false, not, ◌&&◌, [], ◌∷◌, length, find, Option, Some, None, is_some, is_none, codes}
use Rattle.std.specs.Option.{option_map}
use Rattle.ks_base.specs.declared.kinds.Kind.TheVariants as kind
use Rattle.ks_base.specs.declared.faults.RowFault.{RowFault}
use Rattle.ks_base.specs.declared.faults.RowFault.TheVariants as fault
use Rattle.ks_base.specs.declared.rows.RoleRow.{RoleRow}
use Rattle.ks_base.specs.declared.grants.ImplyRow.{ImplyRow}
use Rattle.ks_base.specs.Limits.{limit}
use Rattle.ks_base.specs.Refusals.{fault_if, first_of}
use Rattle.ks_base.specs.Rows.{Id, same, role_of}
use Rattle.ks_base.specs.RoleLists.{RolesState, is_named, is_implication}

-- no role has the id
abbrev pub role_absent : RolesState → Id → Option RowFault
role_absent state id = fault_if (is_none (role_of id state.roles)) (fault.Absent kind.Role id)

-- another role has the name
abbrev pub name_taken : RolesState → RoleRow → Option RowFault
name_taken state row = option_map (λ holder. fault.NameTaken holder.id) (find (is_named row.name) state.roles)

-- another row than the one with this id
abbrev pub is_other_named : RoleRow → RoleRow → Bool
is_other_named row holder = not (same holder.id row.id) && is_named row.name holder

abbrev pub other_named : RolesState → RoleRow → Option RowFault
other_named state row = option_map (λ holder. fault.NameTaken holder.id) (find (is_other_named row) state.roles)

abbrev pub roles_full : RolesState → Option RowFault
roles_full state = fault_if (nat_le (limit kind.Role) (length state.roles)) (fault.Full kind.Role)

abbrev pub implications_full : RolesState → ImplyRow → Option RowFault
implications_full state row = fault_if (not (is_implication row state.implications) && nat_le (limit kind.Implication) (length state.implications)) (fault.Full kind.Implication)

abbrev pub role_id_taken : RolesState → Id → Option RowFault
role_id_taken state id = fault_if (is_some (role_of id state.roles)) (fault.IdTaken id)

-- | no role may imply the one that is named admin
abbrev pub is_admin : Option RoleRow → Bool
is_admin None = false
is_admin (Some row) = same row.name (codes "admin")

abbrev pub admin_implied : RolesState → Id → Option RowFault
admin_implied state id = fault_if (is_admin (role_of id state.roles)) fault.Prohibited

abbrev pub implication_absent : RolesState → ImplyRow → Option RowFault
implication_absent state row = fault_if (not (is_implication row state.implications)) (fault.Absent kind.Implication row.implied)

-- the first cause that refuses a new role (name taken, table full, id taken), a changed one (absent, another has the name), the end of one
-- (absent)
unfoldable pub add_fault : RolesState → RoleRow → Option RowFault
add_fault state row = first_of (name_taken state row ∷ roles_full state ∷ role_id_taken state row.id ∷ [])

unfoldable pub set_fault : RolesState → RoleRow → Option RowFault
set_fault state row = first_of (role_absent state row.id ∷ other_named state row ∷ [])

abbrev pub drop_fault : RolesState → Id → Option RowFault
drop_fault state id = role_absent state id

-- the same of an implication: the prior role is absent, the implied one is absent, the implied one is named `admin`, the table is full and
-- the implication does not stand; and of its end: a role is absent, or the implication is
unfoldable pub imply_fault : RolesState → ImplyRow → Option RowFault
imply_fault state row = first_of (
    role_absent state row.prior ∷ role_absent state row.implied ∷ admin_implied state row.implied ∷
    implications_full state row ∷ [])

unfoldable pub unimply_fault : RolesState → ImplyRow → Option RowFault
unimply_fault state row = first_of (
    role_absent state row.prior ∷ role_absent state row.implied ∷ implication_absent state row ∷ [])
