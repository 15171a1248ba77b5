-- The rows of an opening, as they are found while it is checked.
use Rattle.std.specs.Prelude.{◌≡◌, [], ◌∷◌, Option}
use Rattle.ks_base.specs.Refusals.{first_of}
use Rattle.ks_base.specs.Rows.{Rows}
use Rattle.ks_machine.specs.declared.settings.OpenFault.{OpenFault}
use Rattle.ks_machine.specs.Opened.{absent_fault, project_below_disabled, first_alone, ids_fault, names_fault, prohibited, rows_opened, project_too_deep}
use Rattle.ks_machine.specs.Openings.{PlainOpening}
use Rattle.ks_opening.specs.declared.listed.Listed.{Listed}

-- the rows that have ids
abbrev pub rows_listed : Listed → Rows
rows_listed listed = record {
  domains = listed.domains;
  projects = listed.projects;
  users = listed.users;
  groups = listed.groups;
  members = [];
  roles = listed.roles;
  implications = [];
  grants = [];
  trusts = [];
  regions = listed.regions;
  services = listed.services;
  endpoints = listed.endpoints;
  app_creds = [];
  secrets = [];
  factor_rules = [];
}

-- these are the rows of the opening, in its order
pub record AreRowsOf (listed : Listed) (opening : PlainOpening) : Type 0 where
  pub domains : listed.domains ≡ opening.domains
  pub projects : listed.projects ≡ opening.projects
  pub users : listed.users ≡ opening.users
  pub groups : listed.groups ≡ opening.groups
  pub roles : listed.roles ≡ opening.roles
  pub regions : listed.regions ≡ opening.regions
  pub services : listed.services ≡ opening.services
  pub endpoints : listed.endpoints ≡ opening.endpoints

-- the first fault of what rows name, of the trees and of the roles, where these rows stand
abbrev pub rows_fault : Rows → PlainOpening → Option OpenFault
rows_fault rows opening = first_of (
    absent_fault rows opening ∷ first_alone (project_too_deep rows) opening.projects ∷ first_alone (project_below_disabled rows) opening.projects ∷
    first_alone (prohibited rows) opening.implications ∷ [])

-- the first fault of the rows, before it is seen how many they are
abbrev pub listed_fault : PlainOpening → Option OpenFault
listed_fault opening = first_of (ids_fault opening ∷ names_fault opening ∷ rows_fault (rows_opened opening) opening ∷ [])
