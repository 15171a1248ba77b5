use Rattle.std.proofs.Common.{refl, filter}
use Rattle.ks_base.specs.Grants.{is_of_actor}
use Rattle.ks_effective.proofs.PlaceLemmas.{none_put}
use Rattle.ks_effective.proofs.targets.add_places.Goals as goal

pub returns-in-None : goal.returns-in-None
returns-in-None c = none_put (filter (is_of_actor c.args.actor.now) c.args.grants.now) c.args.places.now (c.in-None.ensures.none.0 refl)
