use Rattle.std.proofs.Common.{refl, ◌∙◌}
use Rattle.ks_auth.specs.Answers.{rows_told}
use Rattle.ks_relations.proofs.Passed.{given_more}
use Rattle.ks_relations.proofs.effective.given_to.Goals as goal

pub loop-at-preserved : goal.loop-at-preserved
loop-at-preserved c =
    given_more (rows_told c.args.tables.now) c.args.user.now c.args.targets.now c.loop-at.at-index c.at-item.result c.loop-at.rows c.add_given.new.rows
    c.loop-at-test.true c.at-item.is c.loop-at.invariant
    (c.in_ok-add_given.ensures ∙ rw (c.as_slice.ensures, c.in_ok-roles.ensures.list) refl)
