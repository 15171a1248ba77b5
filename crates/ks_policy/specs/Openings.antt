-- An opening, as plain data.
use Rattle.ks_machine.specs.Openings.{PlainOpening}
use Rattle.ks_policy.specs.declared.opening.Opening.{Opening}

-- an opening as the plain data that the machine opens with
abbrev pub plain : Opening → PlainOpening
plain opening = record {
  settings = opening.settings;
  rules = opening.rules;
  ring = opening.ring;
  domains = opening.domains;
  projects = opening.projects;
  users = opening.users;
  groups = opening.groups;
  members = opening.members;
  roles = opening.roles;
  implications = opening.implications;
  regions = opening.regions;
  services = opening.services;
  endpoints = opening.endpoints;
  assignments = opening.assignments;
}
