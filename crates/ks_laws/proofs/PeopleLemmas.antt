-- Each change of domains, users and groups keeps them orderly.
use Rattle.std.proofs.Common.{◌≡◌, Bool, true, false, List, [], ◌∷◌, Option, Some, None, refl, ap}
use Rattle.std.proofs.lemmas.Bool.{and_from}
use Rattle.std.specs.Prelude.{not}
use Rattle.std.specs.List.{filter, find}
use Rattle.ks_base.specs.declared.faults.RowFault.TheVariants as fault
use Rattle.ks_base.specs.declared.rows.DomainRow.{DomainRow}
use Rattle.ks_base.specs.declared.rows.GroupRow.{GroupRow}
use Rattle.ks_base.specs.declared.users.UserRow.{UserRow}
use Rattle.ks_base.specs.People.{PeopleState, is_group_in, is_user_in, is_user_named}
use Rattle.ks_base.specs.PeopleFaults.{add_user_fault, is_other_user_named, other_user_named, set_user_fault, user_absent, user_id_taken, user_name_taken, users_full}
use Rattle.ks_base.specs.Rows.{Id, same, user_of}
use Rattle.ks_base.specs.Tables.{Among, drop_row, id_cmp, put_row}
use Rattle.ks_base.proofs.RowLemmas.{among_drop, among_filter}
use Rattle.ks_base.proofs.OptionLemmas.{none_mapped}
use Rattle.ks_laws.specs.Orderly.{ArePeopleOrderly, DomainStands}
use Rattle.ks_laws.proofs.ListLemmas.{each_drop, each_filter, each_put, found_none, is_same, names_put, none_apply, same_is}
use Rattle.ks_laws.proofs.TreeLemmas.{homes_left, homes_put}
use Rattle.ks_machine.specs.Lawful.{IsPut}
use Rattle.ks_machine.specs.Ranges.{IsGroupInRange, IsUserInRange}

pub people_domain_put : (row : DomainRow) (domains : List DomainRow) (users : List UserRow) (groups : List GroupRow) → ArePeopleOrderly domains users groups →
    ArePeopleOrderly (put_row id_cmp (λ r. r.id) row domains) users groups
people_domain_put row domains users groups old = record {
  users_range = old.users_range;
  groups_range = old.groups_range;
  user_homes = homes_put (λ (r : UserRow). r.domain) row domains users old.user_homes;
  group_homes = homes_put (λ (r : GroupRow). r.domain) row domains groups old.group_homes;
  names = old.names;
}

pub people_domain_dropped : (gone : Id) (domains : List DomainRow) (users : List UserRow) (groups : List GroupRow) → ArePeopleOrderly domains users groups →
    ArePeopleOrderly (drop_row id_cmp (λ r. r.id) gone domains) (filter (λ row. not (is_user_in gone row)) users) (filter (λ row. not (is_group_in gone row)) groups)
people_domain_dropped gone domains users groups old = record {
  users_range = each_filter IsUserInRange _ users old.users_range;
  groups_range = each_filter IsGroupInRange _ groups old.groups_range;
  user_homes = homes_left (λ (r : UserRow). r.domain) gone domains users old.user_homes;
  group_homes = homes_left (λ (r : GroupRow). r.domain) gone domains groups old.group_homes;
  names = λ a b first second.
      old.names a b (among_filter (λ row. not (is_user_in gone row)) users a first).0 (among_filter (λ row. not (is_user_in gone row)) users b second).0;
}

pub people_user_put : (row : UserRow) (domains : List DomainRow) (users : List UserRow) (groups : List GroupRow) → IsUserInRange row → DomainStands domains row.domain →
    ((other : UserRow) → Among users other → other.domain ≡ row.domain → other.name ≡ row.name → other.id ≡ row.id) → ArePeopleOrderly domains users groups →
    ArePeopleOrderly domains (put_row id_cmp (λ r. r.id) row users) groups
people_user_put row domains users groups range home alone old = record {
  users_range = each_put (λ r. r.id) IsUserInRange row users range old.users_range;
  groups_range = old.groups_range;
  user_homes = each_put (λ r. r.id) _ row users home old.user_homes;
  group_homes = old.group_homes;
  names = names_put (λ (r : UserRow). r.id) (λ (r : UserRow). r.domain) (λ (r : UserRow). r.name) row users alone old.names;
}

pub people_user_dropped : (gone : Id) (domains : List DomainRow) (users : List UserRow) (groups : List GroupRow) → ArePeopleOrderly domains users groups →
    ArePeopleOrderly domains (drop_row id_cmp (λ r. r.id) gone users) groups
people_user_dropped gone domains users groups old = record {
  users_range = each_drop (λ r. r.id) IsUserInRange gone users old.users_range;
  groups_range = old.groups_range;
  user_homes = each_drop (λ r. r.id) _ gone users old.user_homes;
  group_homes = old.group_homes;
  names = λ a b first second.
      old.names a b (among_drop id_cmp (λ (r : UserRow). r.id) gone users a first).0 (among_drop id_cmp (λ (r : UserRow). r.id) gone users b second).0;
}

pub people_group_put : (row : GroupRow) (domains : List DomainRow) (users : List UserRow) (groups : List GroupRow) → IsGroupInRange row → DomainStands domains row.domain →
    ArePeopleOrderly domains users groups → ArePeopleOrderly domains users (put_row id_cmp (λ r. r.id) row groups)
people_group_put row domains users groups range home old = record {
  users_range = old.users_range;
  groups_range = each_put (λ r. r.id) IsGroupInRange row groups range old.groups_range;
  user_homes = old.user_homes;
  group_homes = each_put (λ r. r.id) _ row groups home old.group_homes;
  names = old.names;
}

pub people_group_dropped : (gone : Id) (domains : List DomainRow) (users : List UserRow) (groups : List GroupRow) → ArePeopleOrderly domains users groups →
    ArePeopleOrderly domains users (drop_row id_cmp (λ r. r.id) gone groups)
people_group_dropped gone domains users groups old = record {
  users_range = old.users_range;
  groups_range = each_drop (λ r. r.id) IsGroupInRange gone groups old.groups_range;
  user_homes = old.user_homes;
  group_homes = each_drop (λ r. r.id) _ gone groups old.group_homes;
  names = old.names;
}

-- names

alone_by : (row other : UserRow) (users : List UserRow) (b : Bool) → same other.id row.id ≡ b → find (is_other_user_named row) users ≡ None → Among users other →
    other.domain ≡ row.domain → other.name ≡ row.name → other.id ≡ row.id
alone_by row other users true is none among home name = same_is other.id row.id is
alone_by row other users false is none among home name =
    absurd (found_none (is_other_user_named row) users other none among
    (and_from (not (same other.id row.id)) (is_user_named row.domain row.name other) (ap not is)
    (and_from (same other.domain row.domain) (same other.name row.name) (is_same other.domain row.domain home) (is_same other.name row.name name))))

put_alone : (state : PeopleState) (row : UserRow) (found : Option UserRow) →
    IsPut found (add_user_fault state row) (λ standing. row.domain ≡ standing.domain) (set_user_fault state row) →
    (other : UserRow) → Among state.users other → other.domain ≡ row.domain → other.name ≡ row.name → other.id ≡ row.id
unfolding add_user_fault set_user_fault
put_alone state row None put other among home name =
    absurd (found_none (is_user_named row.domain row.name) state.users other
    (none_mapped (λ holder. fault.NameTaken holder.id) (find (is_user_named row.domain row.name) state.users)
    (none_apply (user_name_taken state row ∷ users_full state ∷ user_id_taken state row.id ∷ []) put).0) among
    (and_from (same other.domain row.domain) (same other.name row.name) (is_same other.domain row.domain home) (is_same other.name row.name name)))
put_alone state row (Some standing) put other among home name =
    alone_by row other state.users (same other.id row.id) refl
    (none_mapped (λ holder. fault.NameTaken holder.id) (find (is_other_user_named row) state.users) (none_apply (user_absent state row.id ∷ other_user_named state row ∷ []) put.1).1.0) among home name

pub is_alone : (state : PeopleState) (row : UserRow) →
    IsPut (user_of row.id state.users) (add_user_fault state row) (λ standing. row.domain ≡ standing.domain) (set_user_fault state row) →
    (other : UserRow) → Among state.users other → other.domain ≡ row.domain → other.name ≡ row.name → other.id ≡ row.id
is_alone state row put = put_alone state row (user_of row.id state.users) put
