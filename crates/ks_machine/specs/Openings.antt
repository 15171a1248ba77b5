-- What an opening file says, as plain data: the state before the first change, with each password derived.
use Rattle.std.specs.Prelude.{ℕ, List}
use Rattle.ks_base.specs.declared.catalog.EndpointRow.{EndpointRow}
use Rattle.ks_base.specs.declared.catalog.RegionRow.{RegionRow}
use Rattle.ks_base.specs.declared.catalog.ServiceRow.{ServiceRow}
use Rattle.ks_base.specs.declared.key.Key.{Key}
use Rattle.ks_base.specs.declared.rows.DomainRow.{DomainRow}
use Rattle.ks_base.specs.declared.rows.ProjectRow.{ProjectRow}
use Rattle.ks_base.specs.declared.users.UserRow.{UserRow}
use Rattle.ks_base.specs.declared.rows.GroupRow.{GroupRow}
use Rattle.ks_base.specs.declared.users.MemberRow.{MemberRow}
use Rattle.ks_base.specs.declared.rows.RoleRow.{RoleRow}
use Rattle.ks_base.specs.declared.grants.ImplyRow.{ImplyRow}
use Rattle.ks_base.specs.declared.grants.GrantRow.{GrantRow}
use Rattle.ks_base.specs.Rows.{Text}
use Rattle.ks_rule.specs.Trees.{Tree}
use Rattle.ks_machine.specs.declared.settings.Settings.{Settings}

-- | a rule of the policy
pub record NamedRule : Type 0 where
  pub name : Text
  pub tree : Tree

-- what an opening file says, with each password derived: each list stands in the order of the file, and the rules in the order of their
-- names
pub record PlainOpening : Type 0 where
  pub settings : Settings
  pub rules : List NamedRule
  pub ring : List (ℕ × Key)
  pub domains : List DomainRow
  pub projects : List ProjectRow
  pub users : List UserRow
  pub groups : List GroupRow
  pub members : List MemberRow
  pub roles : List RoleRow
  pub implications : List ImplyRow
  pub regions : List RegionRow
  pub services : List ServiceRow
  pub endpoints : List EndpointRow
  pub assignments : List GrantRow
