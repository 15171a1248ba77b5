use Rattle.std.proofs.Common.{◌≡◌}
use Rattle.std.proofs.lemmas.Result.{err_from_is_err_and}
use Rattle.ks_spelling.specs.declared.unread.Unread.TheVariants.{NoSpelling}
use Rattle.ks_spelling.specs.Wholes.{read_times}
use Rattle.ks_spelling.proofs.LoopLemmas.{reads_next, reads_none}
use Rattle.ks_spelling.proofs.wholes.read_items.Goals as goal

pub returns-in_err-item-clause-none : goal.returns-in_err-item-clause-none
returns-in_err-item-clause-none g c =
    let p = err_from_is_err_and c.from_residual.result c.from_residual.ensures.1 in
    λ is.
    let same : c.in_err-item.field-0.0 ≡ NoSpelling = cc (p.1, p.2, is) in
    reads_none g.T.Spelled.code c.loop.items.items c.args.count c.loop.counter c.loop.from (read_times g.T.Spelled.code c.args.count c.args.from.now) c.loop-test.true
    (c.in_err-item.ensures same) c.loop.invariant

pub loop-preserved : goal.loop-preserved
loop-preserved g c =
    rw c.in_ok-push.ensures.items
    (reads_next g.T.Spelled.code c.loop.items.items c.args.count c.loop.counter c.loop.from c.in_ok-item.item c.read_from.new.from
    (read_times g.T.Spelled.code c.args.count c.args.from.now) c.loop-test.true c.in_ok-item.ensures c.loop.invariant)
