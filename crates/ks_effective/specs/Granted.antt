-- The roles of the grants that act for a user and reach a target.
use Rattle.std.specs.Prelude.{Bool, List, map, filter, flat_map}
use Rattle.std.specs.Ordering.{is_eq}
use Rattle.ks_base.specs.declared.grants.Actor.{Actor}
use Rattle.ks_base.specs.declared.grants.GrantRow.{GrantRow}
use Rattle.ks_base.specs.declared.grants.GrantSite.{GrantSite}
use Rattle.ks_base.specs.Grants.{is_of_actor}
use Rattle.ks_base.specs.Orders.{site_of, site_cmp}
use Rattle.ks_base.specs.Rows.{Id}
use Rattle.ks_effective.specs.declared.reach.Reach.{Reach}
use Rattle.ks_effective.specs.Actors.{ActorsOf, actors_in}
use Rattle.ks_effective.specs.Reach.{sites}

abbrev pub roles_at : List GrantRow → GrantSite → List Id
roles_at rows site = map (λ row. row.role) (filter (λ row. is_eq (site_cmp (site_of row) site)) rows)

-- the roles of the grants that stand at these sites
abbrev pub roles_over : List GrantRow → List GrantSite → List Id
roles_over rows found = flat_map (roles_at rows) found

-- of this actor's grants among these
abbrev pub roles_to : List GrantRow → Reach → Actor → List Id
roles_to grants reach actor = roles_over (filter (is_of_actor actor) grants) (sites actor reach)

abbrev pub roles_granted : List GrantRow → ActorsOf → Reach → List Id
roles_granted grants actors reach = flat_map (roles_to grants reach) (actors_in actors)
