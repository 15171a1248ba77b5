-- What a server opens with, and how the fault is told for which it does not.
use Rattle.std.specs.Prelude.{◌≡◌, ◌⊎◌, List, [], Option, Some, None, Result, Ok, Err}
use Rattle.ks_base.specs.declared.grants.GrantRow.{GrantRow}
use Rattle.ks_base.specs.declared.trusts.TrustRow.{TrustRow}
use Rattle.ks_base.specs.AppCreds.{AppCredsState}
use Rattle.ks_base.specs.Catalog.{CatalogState}
use Rattle.ks_base.specs.Factors.{FactorState}
use Rattle.ks_base.specs.People.{PeopleState}
use Rattle.ks_base.specs.RoleLists.{RolesState}
use Rattle.ks_base.specs.Rows.{Rows}
use Rattle.ks_base.specs.Trees.{TreeState}
use Rattle.ks_machine.specs.States.{State}
use Rattle.ks_machine.specs.declared.settings.OpenFault.{OpenFault}
use Rattle.ks_machine.specs.declared.settings.OpenFault.TheVariants as fault
use Rattle.ks_opening.specs.declared.opened.OpenedTables.{OpenedTables}

-- | the rows of the tables
abbrev pub rows_in : TreeState → PeopleState → RolesState → List GrantRow → List TrustRow → CatalogState → AppCredsState → FactorState → Rows
rows_in tree people roles grants trusts catalog app_creds factors = record {
  domains = tree.domains;
  projects = tree.projects;
  users = people.users;
  groups = people.groups;
  members = people.members;
  roles = roles.roles;
  implications = roles.implications;
  grants = grants;
  trusts = trusts;
  regions = catalog.regions;
  services = catalog.services;
  endpoints = catalog.endpoints;
  app_creds = app_creds;
  secrets = factors.secrets;
  factor_rules = factors.rules;
}

abbrev pub no_factors : FactorState
no_factors = record { secrets = []; rules = [] }

-- the state before any change: no trust, no application credential and no second factor stands, and nothing is revoked
abbrev pub state_of : OpenedTables → State
state_of opened = record {
  settings = opened.settings;
  rules = opened.rules;
  ring = opened.ring;
  rows = rows_in opened.tree opened.people opened.roles opened.grants [] opened.catalog [] no_factors;
  events = [];
  high = 0;
  made = 0;
}

-- a check passes where there is no fault, and else tells the fault; or there was no memory
abbrev pub TellsFault : {X : Type 0} → Option OpenFault → Result X OpenFault → Type 0
TellsFault refusal (Ok x) = refusal ≡ None
TellsFault refusal (Err why) = (why ≡ fault.Memory) ⊎ (refusal ≡ Some why)
