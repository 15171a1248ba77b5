use Rattle.ks_base.specs.declared.grants.Actor.TheVariants as actor
use Rattle.ks_effective.specs.Granted.{roles_granted, roles_to}
use Rattle.ks_effective.proofs.GrantedLemmas.{added_next}
use Rattle.ks_effective.proofs.effective.granted.Goals as goal

pub loop-group-preserved : goal.loop-group-preserved
loop-group-preserved c =
    added_next (roles_to c.args.grants.now c.args.reach.now) actor.Group c.groups-groups.result.now c.loop-group.group-index c.group-item.result c.loop-group.roles
    c.add_granted-in-loop-group.new.roles (roles_granted c.args.grants.now c.args.actors.now c.args.reach.now) c.loop-group-test.true c.group-item.is c.in_ok-add_granted-2.ensures
    c.loop-group.invariant
