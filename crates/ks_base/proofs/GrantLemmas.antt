-- The grants of an actor and at a target, by the order of grants.
use Rattle.std.proofs.Common.{◌≡◌, not, List, refl, sym, ap, ◌∙◌}
use Rattle.std.specs.Bool.{Decides}
use Rattle.std.specs.List.{filter}
use Rattle.std.specs.Ordering.{is_eq}
use Rattle.std.proofs.lemmas.Cmp.{tied_itself}
use Rattle.ks_base.specs.declared.grants.Actor.{Actor}
use Rattle.ks_base.specs.declared.grants.Actor.TheVariants as actor
use Rattle.ks_base.specs.declared.grants.GrantRow.{GrantRow}
use Rattle.ks_base.specs.Grants.{same_actor, is_of_actor}
use Rattle.ks_base.specs.OrderLaws.{actor_exact, actor_total}
use Rattle.ks_base.specs.Orders.{actor_cmp}
use Rattle.ks_base.proofs.ListLemmas.{filter_alike}
use Rattle.ks_base.proofs.RowLemmas.{eq_is, id_same}

actor_same : (a b : Actor) → is_eq (actor_cmp a b) ≡ same_actor a b
actor_same (actor.User a) (actor.User b) = id_same a b
actor_same (actor.User a) (actor.Group b) = refl
actor_same (actor.Group a) (actor.User b) = refl
actor_same (actor.Group a) (actor.Group b) = id_same a b

pub of_actor : (who : Actor) (rows : List GrantRow) → filter (λ row. is_eq (actor_cmp row.actor who)) rows ≡ filter (is_of_actor who) rows
of_actor who rows = filter_alike (λ row. is_eq (actor_cmp row.actor who)) (is_of_actor who) rows (λ row among. actor_same row.actor who)

pub not_of_actor : (who : Actor) (rows : List GrantRow) → filter (λ row. not (is_eq (actor_cmp row.actor who))) rows ≡ filter (λ row. not (is_of_actor who row)) rows
not_of_actor who rows = filter_alike (λ row. not (is_eq (actor_cmp row.actor who))) (λ row. not (is_of_actor who row)) rows (λ row among. ap not (actor_same row.actor who))

pub same_actor-Decides : (a b : Actor) → Decides (same_actor a b) (a ≡ b)
same_actor-Decides a b = (
  λ same. actor_exact a b (eq_is (actor_cmp a b) (actor_same a b ∙ same)),
  λ is. sym (actor_same a b) ∙ ap (λ (x : Actor). is_eq (actor_cmp x b)) is ∙ ap is_eq (tied_itself actor_total b),
)
