-- Where the grants of an actor stand that reach a target.
-- Source: OS-INHERIT.
use Rattle.std.specs.Prelude.{true, false, List, [], ◌∷◌, ◌++◌, map, Option, Some, None}
use Rattle.ks_base.specs.declared.grants.Actor.{Actor}
use Rattle.ks_base.specs.declared.grants.GrantSite.{GrantSite}
use Rattle.ks_base.specs.declared.grants.Target.{Target}
use Rattle.ks_base.specs.declared.grants.Target.TheVariants as target
use Rattle.ks_base.specs.Rows.{Id}
use Rattle.ks_effective.specs.declared.reach.Reach.{Reach}
use Rattle.ks_effective.specs.declared.reach.Reach.TheVariants as reach

abbrev pub direct : Actor → Target → GrantSite
direct actor at = record { actor = actor; target = at; inherited = false }

abbrev pub inherited : Actor → Target → GrantSite
inherited actor at = record { actor = actor; target = at; inherited = true }

abbrev pub on_domain : Actor → Option Id → List GrantSite
on_domain actor None = []
on_domain actor (Some domain) = inherited actor (target.Domain domain) ∷ []

abbrev pub on_projects : Actor → List Id → List GrantSite
on_projects actor projects = map (λ id. inherited actor (target.Project id)) projects

-- where the grants of an actor stand that reach a target: on the target itself and not inherited, or inherited on the project's domain and
-- on each of its ancestors
abbrev pub sites : Actor → Reach → List GrantSite
sites actor reach.System = direct actor target.System ∷ []
sites actor (reach.Domain id) = direct actor (target.Domain id) ∷ []
sites actor (reach.Project id domain ancestors) = direct actor (target.Project id) ∷ (on_domain actor domain ++ on_projects actor ancestors)
