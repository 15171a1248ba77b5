use Rattle.ks_keyfiles.proofs.LineLemmas.{line_fed, line_unfed, line_empty}
use Rattle.ks_keyfiles.proofs.reading.without_line_feed.Goals as goal

pub returns-in_default : goal.returns-in_default
returns-in_default c = line_empty c.args.content.now c.in_default.ensures.cases

pub returns-then-last-eq10 : goal.returns-then-last-eq10
returns-then-last-eq10 c = line_fed c.args.content.now _ _ c.in-Some.ensures.cases.0 c.if-last-eq10.true

pub returns-else-last-eq10 : goal.returns-else-last-eq10
returns-else-last-eq10 c = line_unfed c.args.content.now _ _ c.in-Some.ensures.cases.0 c.if-last-eq10.false
