use Rattle.std.proofs.Common.{◌+◌, arith}
use Rattle.std.proofs.lemmas.List.{take_rest}
use Rattle.ks_catalog.proofs.UrlLemmas.{all_passed, one_passed, place_found}
use Rattle.ks_catalog.proofs.urls.first_place.Goals as goal

pub returns-in-Some-clause-some : goal.returns-in-Some-clause-some
returns-in-Some-clause-some c =
    place_found c.loop-at.at c.args.url.now c.in-Some.length c.loop-at-test.true c.loop-at.invariant
    (rw (take_rest c.args.url.now (c.loop-at.at + 1)) at c.in-Some.ensures.place)
    (rw (take_rest c.args.url.now (c.loop-at.at + 1)) at c.in-Some.ensures.within)

pub loop-at-preserved : goal.loop-at-preserved
loop-at-preserved c =
    one_passed c.loop-at.at c.args.url.now c.loop-at-test.true c.loop-at.invariant
    (rw (take_rest c.args.url.now (c.loop-at.at + 1)) at c.in_default.ensures.place)

pub returns-clause-none : goal.returns-clause-none
returns-clause-none c = all_passed c.loop-at.at c.args.url.now (omega (arith, c.loop-at-test.false)) c.loop-at.invariant
