use Rattle.ks_service.proofs.FactLemmas.{kept_trans, opened_first, opened_more, opened_whole}
use Rattle.ks_service.proofs.work.open_with.Goals as goal

pub loop-key-preserved : goal.loop-key-preserved
loop-key-preserved g c = record {
  opened = opened_more g.K.Opens.stands_for c.args.keys.now c.loop-key.key-index c.in-Some.text.now c.loop-key.facts c.open_by.new.facts c.key-item.result c.key-item.is c.loop-key-test.true c.loop-key.invariant.opened c.in_ok-open_by.ensures.kept c.in_ok-open_by.ensures.known;
  kept = kept_trans _ _ _ c.loop-key.invariant.kept c.in_ok-open_by.ensures.kept;
}

pub returns-clause-opened : goal.returns-clause-opened
returns-clause-opened g c = opened_whole g.K.Opens.stands_for c.args.text c.in-Some.text c.args.keys.now c.loop-key.key-index c.loop-key.facts c.in-Some.is c.loop-key-test.false c.loop-key.invariant.opened

pub returns-then-branch-clause-opened : goal.returns-then-branch-clause-opened
returns-then-branch-clause-opened g c =
    opened_first g.K.Opens.stands_for c.args.text c.in-Some.text c.args.keys.now c.loop-key.key-index c.loop-key.facts c.open_by.new.facts c.key-item.result c.in_ok-open_by.field-0 c.in-Some.is
    c.key-item.is c.loop-key-test.true c.loop-key.invariant.opened c.in_ok-open_by.ensures.kept c.in_ok-open_by.ensures.known c.in_ok-open_by.ensures.opens c.if-branch.true
