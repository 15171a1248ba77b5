-- Room for the revocations that a change writes: it needs room for all of them among the live ones. Room for rows is a rule of
-- their tables.
-- Source: own limits.
use Rattle.std.specs.Prelude.{ℕ, ◌+◌, Bool, true, false, if◌then◌else◌, nat_le, List, [], ◌∷◌, length, Option, Some, None}
use Rattle.ks_base.specs.declared.events.Revoke.{Revoke}
use Rattle.ks_base.specs.declared.kinds.Kind.TheVariants as kind
use Rattle.ks_base.specs.declared.limits.TheConstants.{SELF_REVOCATIONS}
use Rattle.ks_base.specs.Limits.{limit}
use Rattle.ks_base.specs.Revocation.{live}
use Rattle.ks_machine.specs.declared.cause.Cause.{Cause}
use Rattle.ks_machine.specs.declared.cause.Cause.TheVariants as cause
use Rattle.ks_machine.specs.declared.change.Change.{Change}
use Rattle.ks_machine.specs.declared.command.Command.{Command}
use Rattle.ks_machine.specs.declared.command.Command.TheVariants as command
use Rattle.ks_machine.specs.Attempts.{Attempt, Go, need}
use Rattle.ks_machine.specs.Changes.{effect}
use Rattle.ks_machine.specs.States.{State}

-- | what users do for themselves: they end a token, change their own password, or delete a trust
abbrev pub is_for_oneself : Command → Bool
is_for_oneself command.RevokeToken = true
is_for_oneself (command.ChangePassword id original password) = true
is_for_oneself (command.DeleteTrust id) = true
is_for_oneself command.Version = false
is_for_oneself command.Versions = false
is_for_oneself (command.Login body) = false
is_for_oneself (command.Validate late) = false
is_for_oneself (command.Check late) = false
is_for_oneself (command.Create made) = false
is_for_oneself (command.List kind filters) = false
is_for_oneself (command.Get kind id) = false
is_for_oneself (command.Update id made) = false
is_for_oneself (command.Delete kind id) = false
is_for_oneself (command.GroupsOf id) = false
is_for_oneself (command.ProjectsOf id) = false
is_for_oneself (command.MembersOf id) = false
is_for_oneself (command.Join row) = false
is_for_oneself (command.IsIn row) = false
is_for_oneself (command.Leave row) = false
is_for_oneself (command.Implied id) = false
is_for_oneself (command.Imply row) = false
is_for_oneself (command.Implication row) = false
is_for_oneself (command.IsImplied row) = false
is_for_oneself (command.Unimply row) = false
is_for_oneself (command.GrantsOf who at inherited) = false
is_for_oneself (command.Grant row) = false
is_for_oneself (command.IsGranted row) = false
is_for_oneself (command.Ungrant row) = false
is_for_oneself (command.Assignments filters) = false
is_for_oneself (command.CreateTrust body) = false
is_for_oneself (command.Trusts filters) = false
is_for_oneself (command.Trust id) = false
is_for_oneself (command.TrustRoles id) = false
is_for_oneself command.Events = false
is_for_oneself command.RotateKeys = false
is_for_oneself command.LoadKeys = false
is_for_oneself (command.CreateCatalog asked) = false
is_for_oneself (command.ListCatalog kind filter) = false
is_for_oneself (command.GetCatalog kind id) = false
is_for_oneself (command.UpdateCatalog id asked) = false
is_for_oneself (command.DeleteCatalog kind id) = false
is_for_oneself command.ShowCatalog = false
is_for_oneself (command.CreateAppCred user body) = false
is_for_oneself (command.ListAppCreds user) = false
is_for_oneself (command.GetAppCred user id) = false
is_for_oneself (command.DeleteAppCred user id) = false
is_for_oneself (command.CreateSecret body) = false
is_for_oneself command.ListSecrets = false
is_for_oneself (command.GetSecret id) = false
is_for_oneself (command.DeleteSecret id) = false

-- how many revocations may be live with those that a command writes: 131,072 for what users do for themselves, which leaves room for those
-- who must end what is not theirs, else 262,144
abbrev pub event_limit : Command → ℕ
event_limit asked = if is_for_oneself asked then SELF_REVOCATIONS else limit kind.Event

-- | with these things at most so many are live
abbrev pub has_event_room : State → ℕ → ℕ → List Revoke → Bool
has_event_room S moment most [] = true
has_event_room S moment most (thing ∷ things) =
    nat_le (length (live S.settings.life moment S.events) + length (thing ∷ things)) most

-- | room for the revocations that a change writes among so many live ones; a change that writes none needs none
unfoldable pub room_for : State → ℕ → ℕ → Option Change → Attempt Cause (Unit {0})
room_for S moment most None = Go tt
room_for S moment most (Some what) = need (has_event_room S moment most (effect S what).ended) (cause.Full kind.Event)
