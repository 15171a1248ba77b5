-- What is known of rows where a table refuses nothing.
use Rattle.std.proofs.Common.{◌≡◌, Bool, true, false, not, List, [], ◌∷◌, Option, Some, None, is_some, is_none, Result, Ok, Err, is_ok, refl, ◌∙◌}
use Rattle.ks_base.specs.declared.faults.RowFault.{RowFault}
use Rattle.ks_base.specs.declared.grants.ImplyRow.{ImplyRow}
use Rattle.ks_base.specs.declared.users.MemberRow.{MemberRow}
use Rattle.ks_base.specs.People.{PeopleState, member_of}
use Rattle.ks_base.specs.PeopleFaults.{group_absent, join_group_fault, leave_group_fault, member_absent, members_full, user_absent}
use Rattle.ks_base.specs.Refusals.{fault_if, fault_in, first_of}
use Rattle.ks_base.specs.RoleFaults.{admin_implied, implication_absent, implications_full, imply_fault, role_absent, unimply_fault}
use Rattle.ks_base.specs.RoleLists.{RolesState, is_implication}
use Rattle.ks_machine.specs.Attempts.{Go}
use Rattle.ks_machine.specs.Tables.{unless_row}

pub unrefused : (fault : Option RowFault) → unless_row fault ≡ Go tt → fault ≡ None
unrefused None passes = refl
unrefused (Some fault) passes = cc

-- where the first two of the causes do not apply, the first of these is the last
behind_two : (a b : Option RowFault) (more : List (Option RowFault)) (last : Option RowFault) →
    first_of (a ∷ b ∷ more) ≡ None → first_of (a ∷ b ∷ last ∷ []) ≡ last
behind_two None None more None none = refl
behind_two None None more (Some fault) none = refl
behind_two None (Some fault) more last none = cc
behind_two (Some fault) b more last none = cc

is_ok_where : (answer : Result (Unit {0}) RowFault) (stands : Bool) (fault : RowFault) → fault_in answer ≡ fault_if (not stands) fault → is_ok answer ≡ stands
is_ok_where (Ok u) true fault is = refl
is_ok_where (Ok u) false fault is = cc
is_ok_where (Err other) true fault is = cc
is_ok_where (Err other) false fault is = refl

is_ok_if_some : {X : Type 0} (answer : Result (Unit {0}) RowFault) (row : Option X) (fault : RowFault) → fault_in answer ≡ fault_if (is_none row) fault → is_ok answer ≡ is_some row
is_ok_if_some (Ok u) (Some row) fault is = refl
is_ok_if_some (Ok u) None fault is = cc
is_ok_if_some (Err other) (Some row) fault is = cc
is_ok_if_some (Err other) None fault is = refl

-- whoever may join a group, and leave it too, is in it
pub member_stands : (state : PeopleState) (row : MemberRow) (answer : Result (Unit {0}) RowFault) →
    join_group_fault state row ≡ None → fault_in answer ≡ leave_group_fault state row → is_ok answer ≡ is_some (member_of row state.members)
unfolding join_group_fault leave_group_fault
member_stands state row answer joins leaves =
    is_ok_if_some answer (member_of row state.members) _
    (leaves ∙ behind_two (group_absent state row.group) (user_absent state row.user) (members_full state row ∷ []) (member_absent state row) joins)

-- and an implication that may be made, and taken back too, stands
pub implication_stands : (state : RolesState) (row : ImplyRow) (answer : Result (Unit {0}) RowFault) →
    imply_fault state row ≡ None → fault_in answer ≡ unimply_fault state row → is_ok answer ≡ is_implication row state.implications
unfolding imply_fault unimply_fault
implication_stands state row answer implies unimplies =
    is_ok_where answer (is_implication row state.implications) _
    (unimplies ∙ behind_two (role_absent state row.prior) (role_absent state row.implied) (admin_implied state row.implied ∷ implications_full state row ∷ []) (implication_absent state row) implies)
