-- Which roles are effective, decided: the tests of the relations of walks, grants and effective roles.
-- Source: Identity API v3, role assignments; OS-INHERIT.
use Rattle.std.specs.Prelude.{Bool, true, false, ◌&&◌, ◌||◌, List, [], ◌∷◌, ◌++◌, map, filter}
use Rattle.std.specs.List.{list_any}
use Rattle.ks_base.specs.declared.grants.Actor.{Actor}
use Rattle.ks_base.specs.declared.grants.Actor.TheVariants as actor
use Rattle.ks_base.specs.declared.grants.ImplyRow.{ImplyRow}
use Rattle.ks_base.specs.declared.grants.Target.{Target}
use Rattle.ks_base.specs.declared.grants.Target.TheVariants as target
use Rattle.ks_base.specs.declared.rows.ProjectRow.{ProjectRow}
use Rattle.ks_base.specs.declared.users.MemberRow.{MemberRow}
use Rattle.ks_base.specs.Grants.{same_target}
use Rattle.ks_base.specs.Rows.{Id, Rows, same, has_id}
use Rattle.ks_base.specs.Tables.{id_cmp, put_row}
use Rattle.ks_base.specs.Tree.{ancestors}
use Rattle.ks_base.specs.Trees.{lies_in}

-- | a walk has no need of the first implication, or goes up to it, over it and on
unfoldable pub leads : List ImplyRow → Id → Id → Bool
leads [] from to = same from to
leads (row ∷ rows) from to = leads rows from to || (leads rows from row.prior && leads rows row.implied to)

abbrev pub is_member : List MemberRow → Id → Id → Bool
is_member members group user = list_any (λ row. same row.group group && same row.user user) members

abbrev pub acts : List MemberRow → Id → Actor → Bool
acts members user (actor.User id) = same id user
acts members user (actor.Group id) = is_member members id user

-- the project is a row of this domain
abbrev pub is_in_domain : List ProjectRow → Id → Id → Bool
is_in_domain projects domain project = list_any (λ row. same row.id project && lies_in domain row) projects

-- a direct grant reaches its target, an inherited one the projects of its domain, or the descendants of its project;
-- none but one on the system reaches the system
abbrev pub reaches : List ProjectRow → Bool → Target → Target → Bool
reaches projects false granted wanted = same_target granted wanted
reaches projects true (target.Domain domain) (target.Project project) = is_in_domain projects domain project
reaches projects true (target.Project above) (target.Project project) = has_id (ancestors projects project) above
reaches projects true target.System (target.Project project) = false
reaches projects true granted (target.Domain domain) = false
reaches projects true granted target.System = false

-- | effective roles, decided
unfoldable pub is_effective : Rows → Id → Target → Id → Bool
is_effective rows user wanted role =
    list_any (λ grant. acts rows.members user grant.actor
    && (reaches rows.projects grant.inherited grant.target wanted && leads rows.implications grant.role role)) rows.grants

-- ids in their order, each once
unfoldable pub in_order : List Id → List Id
in_order [] = []
in_order (id ∷ ids) = put_row id_cmp (λ other. other) id (in_order ids)

-- the roles to which implications may lead
abbrev pub roles_implied : Rows → List Id
roles_implied rows = map (λ row. row.implied) rows.implications

-- the effective roles of a user at a target
unfoldable pub roles_at : Rows → Id → Target → List Id
roles_at rows user wanted =
    filter (is_effective rows user wanted) (in_order (map (λ grant. grant.role) rows.grants ++ roles_implied rows))

-- the roles to which walks lead from these
unfoldable pub closure : Rows → List Id → List Id
closure rows roles =
    filter (λ role. list_any (λ prior. leads rows.implications prior role) roles) (in_order (roles ++ roles_implied rows))
