-- What a validation answers: as the plain machine says of each state that the tables tell.
use Rattle.std.specs.Prelude.{◌≡◌, List, Result, Ok, Err, IsSome}
use Rattle.ks_base.specs.declared.memory.Memory.{Memory}
use Rattle.ks_base.specs.declared.users.UserRow.{UserRow}
use Rattle.ks_base.specs.Rows.{Rows, user_of}
use Rattle.ks_effective.specs.State.{rows_of}
use Rattle.ks_machine.specs.Attempts.{Attempt, Go, Stop, Lacks, Keys}
use Rattle.ks_machine.specs.States.{State}
use Rattle.ks_machine.specs.Validity.{Valid}
use Rattle.ks_machine.specs.declared.why.Why.{Why}
use Rattle.ks_payload.specs.Payloads.{IsInRange}
use Rattle.ks_revoke.specs.Histories.{Stands}
use Rattle.ks_ring.specs.declared.held_key.HeldKey.{HeldKey}
use Rattle.ks_auth.specs.declared.tables.Tables.{Tables}
use Rattle.ks_auth.specs.declared.verdict.Verdict.{Verdict}
use Rattle.ks_auth.specs.declared.verdict.Verdict.TheVariants as verdict

-- the rows that tables tell
abbrev pub rows_told : Tables → Rows
rows_told tables = record (rows_of tables.tree.now tables.people.now tables.roles.now tables.grants.now) {
  trusts = tables.trusts.now;
  regions = tables.catalog.now.regions;
  services = tables.catalog.now.services;
  endpoints = tables.catalog.now.endpoints;
  app_creds = tables.app_creds.now;
  secrets = tables.factors.now.state.secrets;
  factor_rules = tables.factors.now.state.rules;
}

-- the tables tell this state: its settings, its ring, its rows, and its revocations, for which the live ones stand
pub record Tells (tables : Tables) (S : State) : Type 0 where
  pub settings : S.settings ≡ tables.settings.now
  pub ring : S.ring ≡ tables.ring.now
  pub rows : S.rows ≡ rows_told tables
  pub events : Stands tables.revoked.now (record { life = tables.revoked.now.life; high = tables.revoked.now.high; events = S.events })

-- a validation answers as the plain machine does of each such state: a verdict is that of the lines of validity, or names that a fact is
-- lacking; of want of memory nothing is said
abbrev pub IsVerdict : Attempt Why Valid → Result Verdict Memory → Type 0
IsVerdict lines (Ok (verdict.Valid payload issued roles)) = lines ≡ Go (record { payload = payload; issued = issued; roles = roles })
IsVerdict lines (Ok (verdict.Refused why)) = lines ≡ Stop why
IsVerdict lines (Ok verdict.Needs) = (keys : List HeldKey) × (lines ≡ Lacks (Keys keys))
IsVerdict lines (Err memory) = Unit {0}

-- the payload of a valid token has a spelling, and its user stands
abbrev pub IsOfUser : List UserRow → Verdict → Type 0
IsOfUser users (verdict.Valid payload issued roles) = IsInRange payload × IsSome (user_of payload.user users)
IsOfUser users (verdict.Refused why) = Unit {0}
IsOfUser users verdict.Needs = Unit {0}
