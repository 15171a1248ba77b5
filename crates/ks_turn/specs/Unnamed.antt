-- The front that tells of nothing: a caller of a turn names its own.
use Rattle.std.specs.Prelude.{[], false}
use Rattle.ks_machine.specs.Fronts.{Front}
use Rattle.ks_machine.specs.Openings.{PlainOpening}

abbrev no_opening : PlainOpening
no_opening = record {
  settings = record { url = []; life = 0; rounds = 0; max_keys = 0; folder = false };
  rules = [];
  ring = [];
  domains = [];
  projects = [];
  users = [];
  groups = [];
  members = [];
  roles = [];
  implications = [];
  regions = [];
  services = [];
  endpoints = [];
  assignments = [];
}

-- a front that tells of nothing: a caller of a turn names its own
abbrev pub no_front : Front
no_front = record { opening = no_opening; changes = []; high = 0; kept = 0 }
