-- Who has which role where: the grants, or what they give one user.
-- Source: Identity API v3, role assignments.
use Rattle.std.specs.Prelude.{Bool, true, false, not, ◌&&◌, ◌||◌, if◌then◌else◌, List, [], ◌∷◌, ◌++◌, Option, Some, None, codes, filter, is_none, map}
use Rattle.std.specs.Option.{option_map_or}
use Rattle.std.specs.Str.{bytes_eq}
use Rattle.ks_base.specs.declared.grants.Actor.{Actor}
use Rattle.ks_base.specs.declared.grants.Actor.TheVariants as actor
use Rattle.ks_base.specs.declared.grants.GrantRow.{GrantRow}
use Rattle.ks_base.specs.declared.grants.Target.{Target}
use Rattle.ks_base.specs.declared.grants.Target.TheVariants as target
use Rattle.ks_base.specs.declared.shapes.Filter.{Filter}
use Rattle.ks_base.specs.Rows.{Id, Text, Rows, same}
use Rattle.ks_machine.specs.declared.body_out.BodyOut.TheVariants as body
use Rattle.ks_rule.specs.Kinds.{Fields, value_in}
use Rattle.ks_machine.specs.Effective.{roles_at}
use Rattle.ks_machine.specs.Outcomes.{Outcome, tells}

-- a filter is not given, or is this id
abbrev pub agrees : Fields → Text → Option Id → Bool
agrees filters name id = option_map_or (λ wanted. option_map_or (same wanted) id false) (value_in filters name) true

abbrev pub user_of_actor : Actor → Option Id
user_of_actor (actor.User id) = Some id
user_of_actor (actor.Group id) = None

abbrev pub group_of_actor : Actor → Option Id
group_of_actor (actor.User id) = None
group_of_actor (actor.Group id) = Some id

abbrev pub project_of_target : Target → Option Id
project_of_target (target.Project id) = Some id
project_of_target (target.Domain id) = None
project_of_target target.System = None

abbrev pub domain_of_target : Target → Option Id
domain_of_target (target.Project id) = None
domain_of_target (target.Domain id) = Some id
domain_of_target target.System = None

-- what the filter of the system compares
abbrev pub system_of_target : Target → Option Text
system_of_target (target.Project id) = None
system_of_target (target.Domain id) = None
system_of_target target.System = Some (codes "all")

abbrev pub is_listed : Fields → GrantRow → Bool
is_listed filters row =
    agrees filters (codes "user.id") (user_of_actor row.actor)
    && (agrees filters (codes "group.id") (group_of_actor row.actor)
    && (agrees filters (codes "role.id") (Some row.role)
    && (agrees filters (codes "scope.project.id") (project_of_target row.target)
    && (agrees filters (codes "scope.domain.id") (domain_of_target row.target)
    && agrees filters (codes "scope.system") (system_of_target row.target)))))

abbrev pub is_yes : Text → Bool
is_yes text = not (bytes_eq text (codes "0") || bytes_eq text (codes "false"))

-- a listing asks for effective roles
abbrev pub asks_for_effective : Fields → Bool
asks_for_effective filters = option_map_or is_yes (value_in filters (codes "effective")) false

-- a listing that asks for effective roles names the user whose they are
abbrev pub user_lacking : Fields → Option Text
user_lacking filters =
    if asks_for_effective filters && is_none (value_in filters (codes "user.id")) then Some (codes "user.id") else None

-- all targets: the system, then domains, then projects, each by id
abbrev pub targets : Rows → List Target
targets rows = target.System ∷ map (λ row. target.Domain row.id) rows.domains ++ map (λ row. target.Project row.id) rows.projects

abbrev pub given_at : Rows → Id → Target → List GrantRow
given_at rows user at = map (λ role. record { actor = actor.User user; target = at; inherited = false; role = role }) (roles_at rows user at)

-- what is given to a user at some targets
unfoldable pub given_to : Rows → Id → List Target → List GrantRow
given_to rows user [] = []
given_to rows user (at ∷ more) = given_at rows user at ++ given_to rows user more

-- all that is given to the user whom the listing names
unfoldable pub effective_of : Rows → Fields → List GrantRow
effective_of rows filters = option_map_or (λ user. given_to rows user (targets rows)) (value_in filters (codes "user.id")) []

abbrev pub rows_asked : Rows → Fields → List GrantRow
rows_asked rows filters = if asks_for_effective filters then effective_of rows filters else rows.grants

-- the grants, or what they give the user whom the listing names, that pass all given filters
unfoldable pub assignments : Rows → Filter → Outcome
assignments rows filters =
    tells (body.Assignments (filter (is_listed filters.fields) (rows_asked rows filters.fields)) (codes "/v3/role_assignments"))
