-- What contracts see of an identity, and what a change makes of it.
use Rattle.std.specs.Prelude.{◌≡◌, ℕ, ◌<◌, ◌^◌, Bool, true, false, length, Option, Some, None, Result, Ok, Err}
use Rattle.ks_base.specs.declared.rows.ProjectRow.{ProjectRow}
use Rattle.ks_base.specs.People.{PeopleState}
use Rattle.ks_base.specs.Revocation.{live}
use Rattle.ks_base.specs.Trees.{TreeState}
use Rattle.ks_machine.specs.declared.change.Change.{Change}
use Rattle.ks_machine.specs.declared.change.Entry.{Entry}
use Rattle.ks_machine.specs.Changes.{apply, effect}
use Rattle.ks_machine.specs.Lawful.{Fits}
use Rattle.ks_machine.specs.States.{State}
use Rattle.ks_state.specs.Logs.{is_room}
use Rattle.ks_state.specs.declared.unmade.Unmade.{Unmade}
use Rattle.ks_state.specs.declared.unmade.Unmade.TheVariants as unmade

-- | what contracts see of an identity: a state, whose revocations are the live ones, and the newest change
pub record Shown : Type 0 where
  -- the state, whose revocations are the live ones alone
  pub state : State
  -- the last change, if there was one
  pub newest : Option Entry

-- | its tree and its people
abbrev pub tree_in : Shown → TreeState
tree_in shown = record { domains = shown.state.rows.domains; projects = shown.state.rows.projects }

abbrev pub people_in : Shown → PeopleState
people_in shown = record { users = shown.state.rows.users; groups = shown.state.rows.groups; members = shown.state.rows.members }

-- | a project that stands keeps its domain and its parent
abbrev pub KeepsHome : ProjectRow → Option ProjectRow → Type 0
KeepsHome row None = Unit {0}
KeepsHome row (Some standing) = (row.domain ≡ standing.domain) × (row.parent ≡ standing.parent)

-- | at a higher moment, with the revocations that are live then
abbrev pub raised_to : ℕ → Shown → Shown
raised_to moment shown = record {
  state = record shown.state { events = live shown.state.settings.life moment shown.state.events; high = moment };
  newest = shown.newest;
}

-- | the state is the changed one, and the change is the last
abbrev pub changed : Change → Shown → Shown
changed change shown = record {
  state = apply shown.state shown.state.high change;
  newest = Some (record { number = shown.state.made; moment = shown.state.high; change = change });
}

-- | there is room for the revocations of a change among so many live ones
abbrev pub has_room : ℕ → Shown → Change → Bool
has_room most shown change = is_room most shown.state.events (length (effect shown.state change).ended)

-- | there is room for them, and for a change more
abbrev pub HasRoom : ℕ → Shown → Change → Type 0
HasRoom most shown change = (has_room most shown change ≡ true) × (shown.state.made < 2 ^ 58)

-- | a change that finds room fits the state, at its highest moment
abbrev pub FitsWithRoom : ℕ → Shown → Change → Type 0
FitsWithRoom most shown change = HasRoom most shown change → Fits shown.state shown.state.high change

-- | a change is made; or there is no room for its revocations, or no memory, and then nothing changes
abbrev pub Makes : ℕ → Shown → Change → Result (Unit {0}) Unmade → Shown → Type 0
Makes most old change (Ok done) new = HasRoom most old change × (new ≡ changed change old)
Makes most old change (Err unmade.Full) new = (has_room most old change ≡ false) × (new ≡ old)
Makes most old change (Err unmade.Memory) new = new ≡ old
