use Rattle.ks_base.specs.declared.users.MemberRow.{MemberRow}
use Rattle.ks_base.specs.Rows.{same}
use Rattle.ks_relations.proofs.NoIds.{not_same, passed}
use Rattle.ks_relations.proofs.effective.none_is_member.Goals as goal

pub loop-row-preserved : goal.loop-row-preserved
loop-row-preserved c =
    passed (λ (row : MemberRow). same row.user c.args.user.now) c.loop-row.row-iterator c.next.new.self c.in-Some.row.now _ c.in-Some.ensures.steps
    (not_same c.in-Some.row.now.user c.args.user.now c.as_slice-id.ensures.id c.requires) c.loop-row.invariant
