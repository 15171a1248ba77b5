use Rattle.std.proofs.Common.{◌∷◌, [], ◌++◌, ◌∙◌, Ok, Err, length, ap, append-nil, append_assoc, length-append, refl, subst, sym, arith, rules}
use Rattle.std.proofs.lemmas.Result.{err_from_is_err_and}
use Rattle.ks_commands.proofs.CheckerLemmas.{bad_behind, bad_held, lines_ended, lines_held, lines_kept, stands_line, stands_hold, stands_written, moves_err}
use Rattle.ks_commands.specs.declared.checker.CheckPlace.{CheckPlace}
use Rattle.ks_commands.specs.steps.Progress.{HasLines}
use Rattle.ks_commands.proofs.checker.Checker.take_piece.Goals as goal

pub returns-in_err-end_line-clause-moves : goal.returns-in_err-end_line-clause-moves
returns-in_err-end_line-clause-moves g c whole before h =
    let p = err_from_is_err_and c.from_residual.result c.from_residual.ensures.1 in
    let stood = rw c.in-Some.ensures.1 at (c.lines.invariant.stands whole before h) in
    rw (p.1, p.2) (moves_err c.in_err-end_line.field-0.0 whole c.in-Some.behind.now [] c.end_line.new.self _ before
    (stands_line (Err c.in_err-end_line.field-0.0) whole c.in-Some.line.now c.in-Some.behind.now c.lines.self c.end_line.new.self _ before stood c.end_line.ensures.inside c.in_err-end_line.ensures.ends))

pub returns-in_default-write_many-clause-moves : goal.returns-in_default-write_many-clause-moves
returns-in_default-write_many-clause-moves g c whole before h =
    let stood = rw c.in-Some.ensures.1 at (c.lines.invariant.stands whole before h) in
    let behind = stands_line (Ok c.in_ok-end_line.field-0) whole c.in-Some.line.now c.in-Some.behind.now c.lines.self c.end_line.new.self _ before stood c.end_line.ensures.inside c.in_ok-end_line.ensures.ends in
    c.in_default-write_many.ensures.moves whole c.in-Some.behind.now before behind

pub lines-init : goal.lines-init
lines-init g c = record {
  stands = search rules;
  lines = λ read h. ([], refl, subst (λ l. HasLines c.args.self.now l) (sym (append-nil read)) h);
  forward = omega arith;
  bytes = search rules;
  writes = search rules;
}

pub lines-preserved : goal.lines-preserved
lines-preserved g c = record {
  stands = λ whole before h.
      let stood = rw c.in-Some.ensures.1 at (c.lines.invariant.stands whole before h) in
      let behind = stands_line (Ok c.in_ok-end_line.field-0) whole c.in-Some.line.now c.in-Some.behind.now c.lines.self c.end_line.new.self _ before stood c.end_line.ensures.inside c.in_ok-end_line.ensures.ends in
      c.in-Ok.ensures.moves whole c.in-Some.behind.now before behind;
  lines = λ read h.
      let l = c.lines.invariant.lines read h in (
        l.0 ++ (c.in-Some.line.now ++ 10 ∷ []),
        l.1 ∙ (ap (λ r. l.0 ++ r) (c.in-Some.ensures.1 ∙ sym (append_assoc c.in-Some.line.now (10 ∷ []) c.in-Some.behind.now)) ∙ sym (append_assoc l.0 (c.in-Some.line.now ++ 10 ∷ []) c.in-Some.behind.now)),
        subst (λ r. HasLines c.write_many.new.self r) (append_assoc read l.0 (c.in-Some.line.now ++ 10 ∷ []))
            (lines_kept c.end_line.new.self c.write_many.new.self ((read ++ l.0) ++ (c.in-Some.line.now ++ 10 ∷ [])) c.write_many.ensures.place c.write_many.ensures.line
            (lines_ended c.lines.self c.end_line.new.self (read ++ l.0) c.in-Some.line.now c.end_line.ensures.inside c.in_ok-end_line.ensures.forward c.in_ok-end_line.ensures.ends.1 l.2)),
      );
  forward = omega (arith, c.lines.invariant.forward, c.in_ok-end_line.ensures.forward, ap (λ (p : CheckPlace). p.lines) c.write_many.ensures.place);
  bytes = omega (arith, c.lines.invariant.bytes, c.in_ok-end_line.ensures.bytes, c.write_many.ensures.bytes, ap length c.in-Some.ensures.1, length-append c.in-Some.line.now (10 ∷ c.in-Some.behind.now));
  writes = search rules;
}

pub returns-in_err-hold-clause-moves : goal.returns-in_err-hold-clause-moves
returns-in_err-hold-clause-moves g c whole before h =
    let p = err_from_is_err_and c.from_residual-in_err-hold.result c.from_residual-in_err-hold.ensures.1 in
    rw (p.1, p.2) (stands_hold (Err c.in_err-hold.field-0.0) whole c.lines.rest.now c.lines.self c.hold.new.self _ before (c.lines.invariant.stands whole before h) c.hold.ensures.inside c.in_err-hold.ensures.holds)

pub returns-in_default-write_out-clause-moves : goal.returns-in_default-write_out-clause-moves
returns-in_default-write_out-clause-moves g c whole before h =
    let standing = stands_hold (Ok c.in_ok-hold.field-0) whole c.lines.rest.now c.lines.self c.hold.new.self (g.K.Stream.stream c.lines.output).written before (c.lines.invariant.stands whole before h) c.hold.ensures.inside c.in_ok-hold.ensures.holds in
    stands_written (Err c.in_default-write_out.field-0) whole [] c.hold.new.self c.write_out.new.self (g.K.Stream.stream c.lines.output).written (g.K.Stream.stream c.write_out.new.output).written before standing (c.in_default-write_out.ensures.told _ standing.written_is)

pub returns-clause-moves : goal.returns-clause-moves
returns-clause-moves g c whole before h =
    let standing = stands_hold (Ok c.in_ok-hold.field-0) whole c.lines.rest.now c.lines.self c.hold.new.self (g.K.Stream.stream c.lines.output).written before (c.lines.invariant.stands whole before h) c.hold.ensures.inside c.in_ok-hold.ensures.holds in
    stands_written (Ok c.in-Ok-write_out.field-0) whole [] c.hold.new.self c.write_out.new.self (g.K.Stream.stream c.lines.output).written (g.K.Stream.stream c.write_out.new.output).written before standing (c.in-Ok-write_out.ensures.told _ standing.written_is)

pub returns-in_err-end_line-clause-bad : goal.returns-in_err-end_line-clause-bad
returns-in_err-end_line-clause-bad g c n is =
    let p = err_from_is_err_and c.from_residual.result c.from_residual.ensures.1 in
    bad_behind c.in_err-end_line.field-0.0 c.args.self.now.place.lines c.in-Some.line.now c.lines.self c.end_line.new.self c.lines.invariant.forward c.in_err-end_line.ensures.ends n (cc (p.1, p.2, is))

pub returns-in_err-hold-clause-bad : goal.returns-in_err-hold-clause-bad
returns-in_err-hold-clause-bad g c n is =
    let p = err_from_is_err_and c.from_residual-in_err-hold.result c.from_residual-in_err-hold.ensures.1 in
    bad_held c.in_err-hold.field-0.0 c.args.self.now.place.lines c.lines.rest.now c.lines.self c.hold.new.self c.lines.invariant.forward c.in_err-hold.ensures.holds n (cc (p.1, p.2, is))

pub returns-clause-lines : goal.returns-clause-lines
returns-clause-lines g c read h =
    let l = c.lines.invariant.lines read h in
    lines_kept c.hold.new.self c.write_out.new.self (read ++ c.args.piece.now) c.write_out.ensures.place c.write_out.ensures.line
    (subst (λ r. HasLines c.hold.new.self r) (append_assoc read l.0 c.lines.rest.now ∙ ap (λ r. read ++ r) (sym l.1))
    (lines_held c.lines.self c.hold.new.self (read ++ l.0) c.lines.rest.now c.in_ok-hold.ensures.holds l.2))
