-- What contracts see of values that hold references.
use Rattle.std.specs.Prelude.{false, Some, None}
use Rattle.std.specs.Option.{option_copied}
use Rattle.ks_base.specs.Rows.{Text}
use Rattle.ks_machine.specs.Actions as machine
use Rattle.ks_machine.specs.Targets as targets
use Rattle.ks_targets.specs.declared.requirements.Requirements.{Requirements}
use Rattle.ks_targets.specs.declared.seen.Seen.{Seen}

-- what a command asks for
abbrev pub requirements_of : Requirements → machine.Requirements
requirements_of asked = record {
  action = option_copied asked.action;
  draws = asked.draws;
  loads = asked.loads;
  subject = asked.subject;
  late = asked.late;
  lacks = option_copied asked.lacks;
}

-- | a rule alone
abbrev pub asks_for : Text → machine.Requirements
asks_for action = record { action = Some action; draws = false; loads = false; subject = false; late = false; lacks = None }

-- what rules see of a row
abbrev pub seen_of : Seen → targets.Seen
seen_of seen = record {
  id = option_copied seen.id;
  name = option_copied seen.name;
  domain = option_copied seen.domain;
  enabled = seen.enabled;
}
