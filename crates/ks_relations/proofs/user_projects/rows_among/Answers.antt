use Rattle.std.proofs.Common.{arith}
use Rattle.ks_auth.specs.Answers.{rows_told}
use Rattle.ks_relations.proofs.UserProjectLemmas.{rows_end, rows_more}
use Rattle.ks_relations.proofs.user_projects.rows_among.Goals as goal

pub loop-at-preserved : goal.loop-at-preserved
loop-at-preserved c =
    rows_more (rows_told c.args.tables.now) c.args.user.now c.args.targets.now c.loop-at.at-index c.at-item.result c.loop-at.rows c.add_project.new.rows
    c.loop-at-test.true c.at-item.is c.in_ok-add_project.ensures c.loop-at.invariant

pub returns : goal.returns
returns c = rows_end (rows_told c.args.tables.now) c.args.user.now c.args.targets.now c.loop-at.at-index c.loop-at.rows (omega (arith, c.loop-at-test.false)) c.loop-at.invariant
