use Rattle.std.proofs.Common.{◌≡◌, ◌++◌, map, drop}
use Rattle.std.specs.List.{flat_map}
use Rattle.ks_base.specs.declared.grants.Actor.TheVariants as actor
use Rattle.ks_effective.specs.Granted.{roles_granted, roles_to}
use Rattle.ks_effective.proofs.effective.granted.Given as goal

abbrev pub invariant-loop-group : goal.invariant-loop-group
invariant-loop-group l =
    l.roles ++ flat_map (roles_to l.grants l.reach) (map actor.Group (drop l.group-index l.groups)) ≡ roles_granted l.grants l.actors l.reach
