use Rattle.std.proofs.Common.{Err, take, ◌++◌, ap, subst, arith, rules}
use Rattle.std.proofs.lemmas.Result.{err_from_is_err_and}
use Rattle.ks_commands.proofs.CheckerLemmas.{starts, stands_piece, reads_on, stops_at, stops_reading, finishes}
use Rattle.ks_commands.specs.steps.Progress.{HasLines}
use Rattle.ks_commands.proofs.checker.Checker.read_all.Goals as goal

pub reads-init : goal.reads-init
reads-init g c = record {
  told = λ text before left_is written_is. starts c.args.self.now text before _ _ c.requires.fresh left_is written_is;
  reads = search rules;
  writes = search rules;
}

pub returns-in_default-clause-told : goal.returns-in_default-clause-told
returns-in_default-clause-told g c text before left_is written_is =
    let r = c.reads.invariant.told text before left_is written_is in
    stops_reading text (g.S.Stream.stream c.reads.input).left (g.S.Stream.stream c.read.new.self).left c.reads.self (g.K.Stream.stream c.reads.output).written before r (c.in_default.ensures.told r.rest r.left_is)

pub returns-then-count-eq0-clause-told : goal.returns-then-count-eq0-clause-told
returns-then-count-eq0-clause-told g c text before left_is written_is =
    let r = c.reads.invariant.told text before left_is written_is in
    let taken = rw c.if-count-eq0.true at (c.in-Ok.ensures.told r.rest r.left_is) in
    finishes c.finish.result c.read.new.into text (g.S.Stream.stream c.reads.input).left (g.S.Stream.stream c.read.new.self).left c.reads.self c.finish.new.self (g.K.Stream.stream c.reads.output).written before r taken c.finish.ensures.bad (c.finish.ensures.finishes _ before _ r.stands)

pub reads-preserved : goal.reads-preserved
reads-preserved g c = record {
  told = λ text before left_is written_is.
      let r = c.reads.invariant.told text before left_is written_is in
      let taken = c.in-Ok.ensures.told r.rest r.left_is in
      reads_on c.in-Ok.count c.read.new.into text (g.S.Stream.stream c.reads.input).left (g.S.Stream.stream c.read.new.self).left c.reads.self c.take_piece.new.self (g.K.Stream.stream c.reads.output).written (g.K.Stream.stream c.take_piece.new.output).written before r taken
      (c.in_ok-take_piece.ensures.moves _ before (rw c.split_at.ensures.front (stands_piece r.read (take c.in-Ok.count c.read.new.into) c.reads.self (g.K.Stream.stream c.reads.output).written before r.stands)))
      (subst (λ l. HasLines c.take_piece.new.self (r.read ++ l)) c.split_at.ensures.front (c.in_ok-take_piece.ensures.lines r.read r.lines));
  reads = search rules;
  writes = search rules;
}

pub returns-in_err-take_piece-clause-told : goal.returns-in_err-take_piece-clause-told
returns-in_err-take_piece-clause-told g c text before left_is written_is =
    let p = err_from_is_err_and c.from_residual.result c.from_residual.ensures.1 in
    let r = c.reads.invariant.told text before left_is written_is in
    let taken = c.in-Ok.ensures.told r.rest r.left_is in
    rw (p.1, p.2) (stops_at c.in_err-take_piece.field-0.0 c.in-Ok.count c.read.new.into text (g.S.Stream.stream c.reads.input).left (g.S.Stream.stream c.read.new.self).left c.reads.self c.take_piece.new.self (g.K.Stream.stream c.reads.output).written (g.K.Stream.stream c.take_piece.new.output).written before r taken (omega (arith, c.in-Ok.ensures.within, c.requires.size)) (λ m is. c.in_err-take_piece.ensures.bad m (ap Err is))
    (c.in_err-take_piece.ensures.moves _ before (rw c.split_at.ensures.front (stands_piece r.read (take c.in-Ok.count c.read.new.into) c.reads.self (g.K.Stream.stream c.reads.output).written before r.stands))))
