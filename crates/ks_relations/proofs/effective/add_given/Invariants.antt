use Rattle.std.proofs.Common.{◌≡◌, ◌++◌, false, map, drop}
use Rattle.ks_base.specs.declared.grants.Actor.TheVariants as actor
use Rattle.ks_relations.proofs.effective.add_given.Given as goal

abbrev pub invariant-loop-role : goal.invariant-loop-role
invariant-loop-role l =
    l.rows ++ map (λ role. record { actor = actor.User l.user; target = l.at; inherited = false; role = role }) (drop l.role-index l.roles)
    ≡ l.initial.rows ++ map (λ role. record { actor = actor.User l.user; target = l.at; inherited = false; role = role }) l.roles
