-- The whole state of the machine.
use Rattle.std.specs.Prelude.{ℕ, Bool, false, List, ◌&&◌}
use Rattle.std.specs.Option.{option_map_or}
use Rattle.ks_base.specs.declared.events.EventRow.{EventRow}
use Rattle.ks_base.specs.Rows.{Id, Rows, domain_of, project_of, user_of}
use Rattle.ks_machine.specs.Openings.{NamedRule}
use Rattle.ks_machine.specs.declared.settings.Settings.{Settings}
use Rattle.ks_ring.specs.Rings.{RingState}

-- settings, rules, ring, rows, all revocations ever written, the highest moment, the number of changes
pub record State : Type 0 where
  pub settings : Settings
  pub rules : List NamedRule
  pub ring : RingState
  pub rows : Rows
  -- all that were ever written
  pub events : List EventRow
  -- the highest moment so far
  pub high : ℕ
  -- how many changes were made
  pub made : ℕ

-- the state with this as its highest moment
abbrev pub raised : State → ℕ → State
raised S moment = record S { high = moment }

-- what stands, is enabled and lies in what is enabled

-- a row stands and is enabled in an enabled domain
abbrev pub is_domain_on : Rows → Id → Bool
is_domain_on rows id = option_map_or (λ domain. domain.enabled) (domain_of id rows.domains) false

abbrev pub is_user_on : Rows → Id → Bool
is_user_on rows id = option_map_or (λ user. user.enabled && is_domain_on rows user.domain) (user_of id rows.users) false

abbrev pub is_project_on : Rows → Id → Bool
is_project_on rows id = option_map_or (λ project. project.enabled && is_domain_on rows project.domain) (project_of id rows.projects) false
