use Rattle.std.proofs.Common.{arith}
use Rattle.ks_keyfiles.proofs.IndexLemmas.{at_end, before_end, last_is_highest, last_is_small}
use Rattle.ks_keyfiles.proofs.rotating.next_index.Goals as goal

pub returns-then-highest-eq-LAST_KEY_INDEX-clause-err :
    goal.returns-then-highest-eq-LAST_KEY_INDEX-clause-err
returns-then-highest-eq-LAST_KEY_INDEX-clause-err c =
    at_end c.args.indices.now _ _ c.requires c.in-Some.ensures.cases.0 c.if-highest-eq-LAST_KEY_INDEX.true

pub overflow_add-result : goal.overflow_add-result
overflow_add-result c =
    let small = last_is_small c.args.indices.now _ _ c.requires c.in-Some.ensures.cases.0 in
    omega (arith, small)

pub returns-clause-ok : goal.returns-clause-ok
returns-clause-ok c =
    let small = last_is_small c.args.indices.now _ _ c.requires c.in-Some.ensures.cases.0 in
    let top = last_is_highest c.args.indices.now _ _ c.requires c.in-Some.ensures.cases.0 in
    (before_end c.args.indices.now _ _ c.requires c.in-Some.ensures.cases.0 c.if-highest-eq-LAST_KEY_INDEX.false, omega (arith, top), omega (arith, small))
