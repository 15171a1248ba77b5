-- Whether changes fit the state that tables tell.
use Rattle.std.specs.Prelude.{◌≡◌, ◌↔◌, ℕ, Bool, [], IsTrue}
use Rattle.std.specs.List.{AllByRecursion}
use Rattle.ks_auth.specs.declared.tables.Tables.{Tables}
use Rattle.ks_auth.specs.Answers.{rows_told}
use Rattle.ks_base.specs.declared.app_creds.AppCredRow.{AppCredRow}
use Rattle.ks_base.specs.declared.trusts.TrustRow.{TrustRow}
use Rattle.ks_base.specs.Rows.{Rows, project_of, role_of, user_of}
use Rattle.ks_machine.specs.declared.change.Change.{Change}
use Rattle.ks_machine.specs.Lawful.{Fits, IsStanding}
use Rattle.ks_machine.specs.States.{State}

-- a state has the settings, the ring and the rows of tables; its revocations and counts may be any
pub record IsToldBy (tables : Tables) (S : State) : Type 0 where
  pub settings : S.settings ≡ tables.settings.now
  pub ring : S.ring ≡ tables.ring.now
  pub rows : S.rows ≡ rows_told tables

-- one of these states
abbrev pub state_told : Tables → State
state_told tables = record {
  settings = tables.settings.now;
  rules = [];
  ring = tables.ring.now;
  rows = rows_told tables;
  events = [];
  high = 0;
  made = 0;
}

-- an answer says whether a change fits the tables, at any moment
abbrev pub SaysFit : Tables → Bool → Change → Type 0
SaysFit tables answer change = (moment : ℕ) → IsTrue answer ↔ Fits (state_told tables) moment change

-- | the users, the project and the roles of a trust stand
abbrev pub PartiesStand : Rows → TrustRow → Type 0
PartiesStand rows trust =
    IsStanding (user_of trust.trustor rows.users) × IsStanding (user_of trust.trustee rows.users)
    × IsStanding (project_of trust.project rows.projects)
    × AllByRecursion (λ role. IsStanding (role_of role rows.roles)) trust.roles

-- the user, the project and the roles of an application credential stand
abbrev pub OwnersStand : Rows → AppCredRow → Type 0
OwnersStand rows row =
    IsStanding (user_of row.user rows.users) × IsStanding (project_of row.project rows.projects)
    × AllByRecursion (λ role. IsStanding (role_of role rows.roles)) row.roles
