use Rattle.std.proofs.Common.{◌≡◌}
use Rattle.std.specs.List.{list_any}
use Rattle.ks_base.specs.declared.grants.Actor.TheVariants as actor
use Rattle.ks_base.specs.Grants.{same_actor}
use Rattle.ks_relations.proofs.effective.none_is_granted.Given as goal

abbrev pub invariant-loop-row : goal.invariant-loop-row
invariant-loop-row l = list_any (λ row. same_actor row.actor (actor.User l.user)) l.row-iterator ≡ list_any (λ row. same_actor row.actor (actor.User l.user)) l.fn.grants
