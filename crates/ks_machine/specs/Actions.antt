-- What each command asks for: an action of a rule, random bytes, the folder of keys, a token that it is about.
-- Source: Keystone's policies; own.
use Rattle.std.specs.Prelude.{Bool, true, false, ◌++◌, Option, Some, None, codes}
use Rattle.ks_base.specs.declared.grants.Actor.{Actor}
use Rattle.ks_base.specs.declared.grants.Actor.TheVariants as actor
use Rattle.ks_base.specs.declared.grants.Target.{Target}
use Rattle.ks_base.specs.declared.grants.Target.TheVariants as target
use Rattle.ks_base.specs.declared.catalog.CatalogKind.{CatalogKind}
use Rattle.ks_base.specs.declared.kinds.Kind.{Kind}
use Rattle.ks_base.specs.declared.kinds.Kind.TheVariants as kind
use Rattle.ks_base.specs.Rows.{Text}
use Rattle.ks_machine.specs.declared.bodies.Made.{Made}
use Rattle.ks_machine.specs.declared.bodies.Made.TheVariants as made
use Rattle.ks_machine.specs.declared.command.Command.{Command}
use Rattle.ks_machine.specs.declared.command.Command.TheVariants as command
use Rattle.ks_machine.specs.declared.row_kind.MadeKind.{MadeKind}
use Rattle.ks_machine.specs.declared.row_kind.RowKind.{RowKind}
use Rattle.ks_machine.specs.declared.row_kind.RowKind.TheVariants as row_kind
use Rattle.ks_machine.specs.Assignments.{user_lacking}
use Rattle.ks_machine.specs.Targets.{catalog_kind, kind_of, made_kind}

-- a kind's word
abbrev pub kind_word : Kind → Text
kind_word kind.Domain = codes "domain"
kind_word kind.Project = codes "project"
kind_word kind.User = codes "user"
kind_word kind.Group = codes "group"
kind_word kind.Role = codes "role"
kind_word kind.Implication = codes "implication"
kind_word kind.Grant = codes "grant"
kind_word kind.Member = codes "member"
kind_word kind.Trust = codes "trust"
kind_word kind.Event = codes "event"
kind_word kind.Region = codes "region"
kind_word kind.Service = codes "service"
kind_word kind.Endpoint = codes "endpoint"
kind_word kind.AppCred = codes "appcred"
kind_word kind.Secret = codes "secret"

-- a kind that has routes of its own, among all
abbrev pub row_kind_of : RowKind → Kind
row_kind_of row_kind.Domain = kind.Domain
row_kind_of row_kind.Project = kind.Project
row_kind_of row_kind.User = kind.User
row_kind_of row_kind.Group = kind.Group
row_kind_of row_kind.Role = kind.Role
row_kind_of row_kind.Region = kind.Region
row_kind_of row_kind.Service = kind.Service
row_kind_of row_kind.Endpoint = kind.Endpoint

-- its word, and its plural
abbrev pub row_word : RowKind → Text
row_word kind = kind_word (row_kind_of kind)

abbrev pub row_words : RowKind → Text
row_words kind = row_word kind ++ codes "s"

-- the same of what a body makes, and of the catalog
abbrev pub made_word : MadeKind → Text
made_word kind = row_word (made_kind kind)

abbrev pub catalog_word : CatalogKind → Text
catalog_word of = row_word (catalog_kind of)

abbrev pub catalog_words : CatalogKind → Text
catalog_words of = row_words (catalog_kind of)

-- the name of an action
abbrev pub identity : Text → Text
identity name = codes "identity:" ++ name

-- grants on the system have actions of their own, for users and for groups
abbrev pub grants_word : Text → Text → Actor → Target → Text
grants_word word system_word who (target.Project id) = word
grants_word word system_word who (target.Domain id) = word
grants_word word system_word (actor.User id) target.System = system_word ++ codes "_for_user"
grants_word word system_word (actor.Group id) target.System = system_word ++ codes "_for_group"

-- | what a command asks for before its own checks: the action that a rule must allow, random bytes, the keys of the folder, a token that
-- it is about and whether that may have expired, and a field of its query that it lacks
pub record Requirements : Type 0 where
  pub action : Option Text
  pub draws : Bool
  pub loads : Bool
  pub subject : Bool
  pub late : Bool
  pub lacks : Option Text

-- a rule alone
abbrev pub asks : Text → Requirements
asks name = record { action = Some (identity name); draws = false; loads = false; subject = false; late = false; lacks = None }

abbrev pub asks_and_draws : Text → Requirements
asks_and_draws name = record (asks name) { draws = true }

abbrev pub asks_about : Text → Bool → Requirements
asks_about name late = record (asks name) { subject = true; late = late }

-- no rule is asked for version, login, password change and the catalog of the caller's own scope
abbrev pub open_to_all : Bool → Requirements
open_to_all draws = record { action = None; draws = draws; loads = false; subject = false; late = false; lacks = None }

-- a change of a user draws a salt, also without a password
abbrev pub draws_for : Made → Bool
draws_for (made.User given name domain password enabled factors) = true
draws_for (made.Domain given name description enabled) = false
draws_for (made.Project given name domain parent description enabled) = false
draws_for (made.Group given name domain description) = false
draws_for (made.Role given name description) = false

unfoldable pub requirements : Command → Requirements
requirements command.Version = open_to_all false
requirements command.Versions = open_to_all false
requirements (command.Login body) = open_to_all true
requirements (command.Validate late) = asks_about (codes "validate_token") late
requirements (command.Check late) = asks_about (codes "check_token") late
requirements command.RevokeToken = asks_about (codes "revoke_token") false
requirements (command.Create made) = asks_and_draws (codes "create_" ++ made_word (kind_of made))
requirements (command.List kind filter) = asks (codes "list_" ++ row_words kind)
requirements (command.Get kind id) = asks (codes "get_" ++ row_word kind)
requirements (command.Update id made) = record (asks (codes "update_" ++ made_word (kind_of made))) { draws = draws_for made }
requirements (command.Delete kind id) = asks (codes "delete_" ++ row_word kind)
requirements (command.ChangePassword user original password) = open_to_all true
requirements (command.GroupsOf id) = asks (codes "list_groups_for_user")
requirements (command.ProjectsOf id) = asks (codes "list_user_projects")
requirements (command.MembersOf id) = asks (codes "list_users_in_group")
requirements (command.Join row) = asks (codes "add_user_to_group")
requirements (command.IsIn row) = asks (codes "check_user_in_group")
requirements (command.Leave row) = asks (codes "remove_user_from_group")
requirements (command.Implied id) = asks (codes "list_implied_roles")
requirements (command.Imply row) = asks (codes "create_implied_role")
requirements (command.Implication row) = asks (codes "get_implied_role")
requirements (command.IsImplied row) = asks (codes "check_implied_role")
requirements (command.Unimply row) = asks (codes "delete_implied_role")
requirements (command.GrantsOf who at inherited) = asks (grants_word (codes "list_grants") (codes "list_system_grants") who at)
requirements (command.Grant row) = asks (grants_word (codes "create_grant") (codes "create_system_grant") row.actor row.target)
requirements (command.IsGranted row) = asks (grants_word (codes "check_grant") (codes "check_system_grant") row.actor row.target)
requirements (command.Ungrant row) = asks (grants_word (codes "revoke_grant") (codes "revoke_system_grant") row.actor row.target)
requirements (command.Assignments filter) = record (asks (codes "list_role_assignments")) { lacks = user_lacking filter.fields }
requirements (command.CreateTrust body) = asks_and_draws (codes "create_trust")
requirements (command.Trusts filter) = asks (codes "list_trusts")
requirements (command.Trust id) = asks (codes "get_trust")
requirements (command.DeleteTrust id) = asks (codes "delete_trust")
requirements (command.TrustRoles id) = asks (codes "list_roles_for_trust")
requirements command.Events = asks (codes "list_revoke_events")
requirements command.RotateKeys = asks_and_draws (codes "rotate_keys")
requirements command.LoadKeys = record (asks (codes "load_keys")) { loads = true }
requirements (command.CreateCatalog asked) = asks_and_draws (codes "create_" ++ catalog_word asked.of)
requirements (command.ListCatalog of filter) = asks (codes "list_" ++ catalog_words of)
requirements (command.GetCatalog of id) = asks (codes "get_" ++ catalog_word of)
requirements (command.UpdateCatalog id asked) = asks (codes "update_" ++ catalog_word asked.of)
requirements (command.DeleteCatalog of id) = asks (codes "delete_" ++ catalog_word of)
requirements command.ShowCatalog = open_to_all false
requirements (command.CreateAppCred user body) = asks_and_draws (codes "create_application_credential")
requirements (command.ListAppCreds user) = asks (codes "list_application_credentials")
requirements (command.GetAppCred user id) = asks (codes "get_application_credential")
requirements (command.DeleteAppCred user id) = asks (codes "delete_application_credential")
requirements (command.CreateSecret body) = asks_and_draws (codes "create_credential")
requirements command.ListSecrets = asks (codes "list_credentials")
requirements (command.GetSecret id) = asks (codes "get_credential")
requirements (command.DeleteSecret id) = asks (codes "delete_credential")
