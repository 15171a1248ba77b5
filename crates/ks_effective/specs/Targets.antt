-- The targets at which a user may have roles.
-- Source: Identity API v3, role assignments.
use Rattle.std.specs.Prelude.{◌≡◌, Bool, true, false, List, [], ◌∷◌, ◌++◌, map, filter, is_some}
use Rattle.std.specs.List.{list_any}
use Rattle.ks_base.specs.declared.grants.Actor.{Actor}
use Rattle.ks_base.specs.declared.grants.GrantRow.{GrantRow}
use Rattle.ks_base.specs.declared.grants.Target.{Target}
use Rattle.ks_base.specs.declared.grants.Target.TheVariants as target
use Rattle.ks_base.specs.Grants.{is_of_actor}
use Rattle.ks_base.specs.Orders.{target_cmp}
use Rattle.ks_base.specs.People.{PeopleState}
use Rattle.ks_base.specs.RoleLists.{RolesState}
use Rattle.ks_base.specs.Roles.{Effective}
use Rattle.ks_base.specs.Rows.{Id, domain_of, project_of}
use Rattle.ks_base.specs.Tables.{put_row}
use Rattle.ks_base.specs.Trees.{TreeState}
use Rattle.ks_effective.specs.State.{rows_of}

-- | all targets: the system, then domains, then projects, each by id
abbrev pub targets : TreeState → List Target
targets tree = target.System ∷ map (λ row. target.Domain row.id) tree.domains ++ map (λ row. target.Project row.id) tree.projects

-- some of all targets, such that the user has no role at any other
pub record AreReached (tree : TreeState) (people : PeopleState) (grants : List GrantRow) (user : Id) (found : List Target) : Type 0 where
  pub test : Target → Bool
  pub found_is : found ≡ filter test (targets tree)
  pub others : (at : Target) → test at ≡ false → (roles : RolesState) (role : Id) → Effective (rows_of tree people roles grants) user at role → ⊥

-- the system always stands
abbrev pub is_standing : TreeState → Target → Bool
is_standing tree target.System = true
is_standing tree (target.Domain id) = is_some (domain_of id tree.domains)
is_standing tree (target.Project id) = is_some (project_of id tree.projects)

-- one of the grants to this actor is inherited
abbrev pub has_inherited : List GrantRow → Actor → Bool
has_inherited grants actor = list_any (λ row. row.inherited) (filter (is_of_actor actor) grants)

-- a set with the targets of these grants
unfoldable pub with_targets : List GrantRow → List Target → List Target
with_targets [] places = places
with_targets (row ∷ rows) places = with_targets rows (put_row target_cmp (λ next. next) row.target places)

-- a set with the targets of the grants to this actor
abbrev pub with_actor : List GrantRow → Actor → List Target → List Target
with_actor grants actor places = with_targets (filter (is_of_actor actor) grants) places

-- and to each of these
unfoldable pub with_actors : List GrantRow → List Actor → List Target → List Target
with_actors grants [] places = places
with_actors grants (actor ∷ actors) places = with_actors grants actors (with_actor grants actor places)
