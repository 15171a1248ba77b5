-- The rows of a state as lists, and how they are found. Each list stands in the order of its ids; grants, memberships and implications in
-- the order in which they are shown.
-- Source: Identity API v3.
use Rattle.std.specs.Prelude.{ℕ, Bool, List, Option}
use Rattle.std.specs.List.{list_any}
use Rattle.std.specs.Str.{bytes_eq}
use Rattle.ks_base.specs.declared.app_creds.AppCredRow.{AppCredRow}
use Rattle.ks_base.specs.declared.factors.MfaRow.{MfaRow}
use Rattle.ks_base.specs.declared.factors.SecretRow.{SecretRow}
use Rattle.ks_base.specs.declared.rows.DomainRow.{DomainRow}
use Rattle.ks_base.specs.declared.rows.ProjectRow.{ProjectRow}
use Rattle.ks_base.specs.declared.users.UserRow.{UserRow}
use Rattle.ks_base.specs.declared.rows.GroupRow.{GroupRow}
use Rattle.ks_base.specs.declared.users.MemberRow.{MemberRow}
use Rattle.ks_base.specs.declared.rows.RoleRow.{RoleRow}
use Rattle.ks_base.specs.declared.grants.ImplyRow.{ImplyRow}
use Rattle.ks_base.specs.declared.grants.GrantRow.{GrantRow}
use Rattle.ks_base.specs.declared.trusts.TrustRow.{TrustRow}
use Rattle.ks_base.specs.declared.catalog.RegionRow.{RegionRow}
use Rattle.ks_base.specs.declared.catalog.ServiceRow.{ServiceRow}
use Rattle.ks_base.specs.declared.catalog.EndpointRow.{EndpointRow}
use Rattle.ks_base.specs.Tables.{id_cmp, find_row}

-- ids and texts as contracts see them: their bytes; two that are the same; an id is one of a list
abbrev pub Id : Type 0
Id = List ℕ

abbrev pub Text : Type 0
Text = List ℕ

abbrev pub same : Id → Id → Bool
same a b = bytes_eq a b

abbrev pub has_id : List Id → Id → Bool
has_id ids id = list_any (λ other. same other id) ids

-- the rows of a state: a list for each table, in the order of its ids, or of the rows themselves where they are their own key
pub record Rows : Type 0 where
  pub domains : List DomainRow
  pub projects : List ProjectRow
  pub users : List UserRow
  pub groups : List GroupRow
  pub members : List MemberRow
  pub roles : List RoleRow
  pub implications : List ImplyRow
  pub grants : List GrantRow
  pub trusts : List TrustRow
  pub regions : List RegionRow
  pub services : List ServiceRow
  pub endpoints : List EndpointRow
  pub app_creds : List AppCredRow
  pub secrets : List SecretRow
  -- the methods that users have to log in by
  pub factor_rules : List MfaRow

-- the row with an id, if one stands
abbrev pub domain_of : Id → List DomainRow → Option DomainRow
domain_of id domains = find_row id_cmp (λ row. row.id) id domains

abbrev pub project_of : Id → List ProjectRow → Option ProjectRow
project_of id projects = find_row id_cmp (λ row. row.id) id projects

abbrev pub user_of : Id → List UserRow → Option UserRow
user_of id users = find_row id_cmp (λ row. row.id) id users

abbrev pub group_of : Id → List GroupRow → Option GroupRow
group_of id groups = find_row id_cmp (λ row. row.id) id groups

abbrev pub role_of : Id → List RoleRow → Option RoleRow
role_of id roles = find_row id_cmp (λ row. row.id) id roles

abbrev pub trust_of : Id → List TrustRow → Option TrustRow
trust_of id trusts = find_row id_cmp (λ row. row.id) id trusts
