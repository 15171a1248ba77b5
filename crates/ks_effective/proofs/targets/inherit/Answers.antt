use Rattle.std.proofs.Common.{◌≡◌, false, rules, map, sym, ◌∙◌}
use Rattle.std.specs.List.{list_any}
use Rattle.ks_base.specs.declared.grants.Actor.TheVariants as actor
use Rattle.ks_effective.specs.Targets.{has_inherited}
use Rattle.ks_effective.proofs.PlaceLemmas.{any_mapped, other_any}
use Rattle.ks_effective.proofs.targets.inherit.Goals as goal

pub returns-else-has_inherited : goal.returns-else-has_inherited
returns-else-has_inherited c =
    let none : has_inherited c.args.grants.now (actor.User c.args.actors.now.user) ≡ false = search rules in
    let any : c.groups_inherit.result ≡ list_any (λ group. has_inherited c.args.grants.now (actor.Group group)) c.args.actors.now.groups = search rules in
    other_any (has_inherited c.args.grants.now (actor.User c.args.actors.now.user)) c.groups_inherit.result
    (list_any (has_inherited c.args.grants.now) (map actor.Group c.args.actors.now.groups)) none
    (any ∙ sym (any_mapped (has_inherited c.args.grants.now) actor.Group c.args.actors.now.groups))
