use Rattle.ks_effective.specs.Actors.{actors_in}
use Rattle.ks_effective.specs.Targets.{with_actors}
use Rattle.std.proofs.Common.{[]}
use Rattle.ks_effective.proofs.PlaceLemmas.{next_actor}
use Rattle.ks_effective.proofs.targets.places_of.Goals as goal

pub loop-group-preserved : goal.loop-group-preserved
loop-group-preserved c =
    next_actor c.args.grants.now c.groups-groups.result.now c.loop-group.group-index c.group-item.result c.loop-group.places c.add_places-in-loop-group.new.places
    (with_actors c.args.grants.now (actors_in c.args.actors.now) []) c.loop-group-test.true c.group-item.is c.in_ok-add_places-2.ensures c.loop-group.invariant
