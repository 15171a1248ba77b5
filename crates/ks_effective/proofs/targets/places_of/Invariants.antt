use Rattle.std.proofs.Common.{◌≡◌, [], map, drop}
use Rattle.ks_base.specs.declared.grants.Actor.TheVariants as actor
use Rattle.ks_effective.specs.Actors.{actors_in}
use Rattle.ks_effective.specs.Targets.{with_actors}
use Rattle.ks_effective.proofs.targets.places_of.Given as goal

abbrev pub invariant-loop-group : goal.invariant-loop-group
invariant-loop-group l = with_actors l.grants (map actor.Group (drop l.group-index l.groups)) l.places ≡ with_actors l.grants (actors_in l.actors) []
