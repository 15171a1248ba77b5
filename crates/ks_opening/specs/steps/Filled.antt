-- An opening whose rows stand in tables.
use Rattle.std.specs.Prelude.{◌≡◌, ℕ, List, [], Option}
use Rattle.std.specs.Option.{option_map}
use Rattle.ks_base.specs.declared.key.Key.{Key}
use Rattle.ks_base.specs.Rows.{Rows}
use Rattle.ks_machine.specs.declared.settings.OpenFault.{OpenFault}
use Rattle.ks_machine.specs.declared.settings.OpenFault.TheVariants as fault
use Rattle.ks_machine.specs.Opened.{rows_opened}
use Rattle.ks_machine.specs.Openings.{PlainOpening}
use Rattle.ks_ring.specs.Rings.{RingState, refusal_of}
use Rattle.ks_opening.specs.declared.filled.Filled.{Filled}
use Rattle.ks_opening.specs.declared.opened.OpenedTables.{OpenedTables}
use Rattle.ks_opening.specs.Opened.{no_factors, rows_in}

-- the rows of its tables; no trust, no application credential and no second factor stands
abbrev pub rows_of : Filled → Rows
rows_of filled = rows_in filled.tree filled.people filled.roles filled.grants [] filled.catalog [] no_factors

-- it is this opening, whose rows stand in their tables
pub record IsFilled (filled : Filled) (opening : PlainOpening) : Type 0 where
  pub settings : filled.settings ≡ opening.settings
  pub rules : filled.rules ≡ opening.rules
  pub keys : filled.keys ≡ opening.ring
  pub rows : rows_of filled ≡ rows_opened opening

-- why the keys are no ring
abbrev pub keys_fault : List (ℕ × Key) → Option OpenFault
keys_fault keys = option_map (λ why. fault.Ring why) (refusal_of keys)

-- what a server opens with, under a ring of its keys
abbrev pub with_ring : Filled → RingState → OpenedTables
with_ring filled ring = record {
  settings = filled.settings;
  rules = filled.rules;
  ring = ring;
  tree = filled.tree;
  people = filled.people;
  roles = filled.roles;
  grants = filled.grants;
  catalog = filled.catalog;
}
