-- What is told of the roles that are granted.
-- Source: Identity API v3, OS-INHERIT.
use Rattle.std.specs.Prelude.{Bool, true, false, List, [], ◌∷◌, ◌++◌, codes}
use Rattle.serde_json.specs.Data.{Data, string}
use Rattle.ks_base.specs.declared.grants.Actor.{Actor}
use Rattle.ks_base.specs.declared.grants.Actor.TheVariants as actor
use Rattle.ks_base.specs.declared.grants.GrantRow.{GrantRow}
use Rattle.ks_base.specs.declared.grants.Target.{Target}
use Rattle.ks_base.specs.declared.grants.Target.TheVariants as target
use Rattle.ks_render.specs.Values.{Entry, object_of}
use Rattle.ks_render.specs.Named.{id_value}
use Rattle.ks_render.specs.Tokens.{system_value}

-- an inherited grant reaches the projects below its target
abbrev pub inherited_entries : Bool → List Entry
inherited_entries false = []
inherited_entries true = (codes "OS-INHERIT:inherited_to", string (codes "projects")) ∷ []

abbrev pub target_entries : Target → List Entry
target_entries (target.Project id) = (codes "project", id_value id) ∷ []
target_entries (target.Domain id) = (codes "domain", id_value id) ∷ []
target_entries target.System = (codes "system", system_value) ∷ []

-- | where a role is granted
unfoldable pub scope_value : Bool → Target → Data
scope_value inherited at = object_of (inherited_entries inherited ++ target_entries at)

-- | who has the role stands before or behind the role and its scope
abbrev pub assignment_entries : Actor → Entry → Entry → List Entry
assignment_entries (actor.Group id) role scope = (codes "group", id_value id) ∷ role ∷ scope ∷ []
assignment_entries (actor.User id) role scope = role ∷ scope ∷ (codes "user", id_value id) ∷ []

unfoldable pub assignment_value : GrantRow → Data
assignment_value grant =
    object_of (assignment_entries grant.actor (codes "role", id_value grant.role) (codes "scope", scope_value grant.inherited grant.target))
