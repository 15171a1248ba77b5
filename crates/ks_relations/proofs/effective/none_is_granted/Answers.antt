use Rattle.ks_base.specs.declared.grants.Actor.TheVariants as actor
use Rattle.ks_base.specs.declared.grants.GrantRow.{GrantRow}
use Rattle.ks_base.specs.Grants.{same_actor}
use Rattle.ks_relations.proofs.NoIds.{not_to_user, passed}
use Rattle.ks_relations.proofs.effective.none_is_granted.Goals as goal

pub loop-row-preserved : goal.loop-row-preserved
loop-row-preserved c =
    passed (λ (row : GrantRow). same_actor row.actor (actor.User c.args.user.now)) c.loop-row.row-iterator c.next.new.self c.in-Some.row.now _ c.in-Some.ensures.steps
    (not_to_user c.args.user.now c.in-Some.row.now.actor c.id.result.now c.id.ensures c.as_slice-id.ensures.id c.requires) c.loop-row.invariant
