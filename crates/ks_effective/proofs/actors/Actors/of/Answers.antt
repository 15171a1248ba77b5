use Rattle.ks_effective.proofs.ActorLemmas.{they_act}
use Rattle.ks_effective.proofs.actors.Actors.of.Goals as goal

pub returns : goal.returns
returns c = they_act c.args.people.now.members c.args.user.now c.in_ok-groups_of.field-0 c.in_ok-groups_of.ensures.ids
