use Rattle.std.proofs.Common.{◌∙◌, sym, arith}
use Rattle.ks_commands.proofs.PasswordLemmas.{alike_line, alike_long, reached_piece}
use Rattle.ks_commands.proofs.password.read_front.Goals as goal

pub returns-then-has_line-clause-alike : goal.returns-then-has_line-clause-alike
returns-then-has_line-clause-alike g c = λ told left.
    let read = c.pieces.invariant.told told left in
    alike_line told c.pieces.text.items read.0 read.1 (rw c.as_slice.ensures.value at (sym c.has_line.ensures ∙ c.if-has_line.true))

pub returns-then-is_err-clause-reach : goal.returns-then-is_err-clause-reach
returns-then-is_err-clause-reach g c = λ told left.
    let read = c.pieces.invariant.told told left in
    reached_piece told c.pieces.text.items c.read.new.into c.in-Ok.count (g.S.Stream.stream c.pieces.input).left (g.S.Stream.stream c.read.new.self).left
    (omega (arith, c.pieces-test.true, c.len.ensures, c.pieces.text.ok.0))
    (omega (arith, c.in-Ok.ensures.within, c.pieces.invariant.room))
    read (c.in-Ok.ensures.told read.0 read.2)

pub returns-clause-alike : goal.returns-clause-alike
returns-clause-alike g c = λ told left.
    let read = c.pieces.invariant.told told left in
    alike_long told c.pieces.text.items read.0 read.1 (omega (arith, c.pieces-test.false, c.len.ensures, c.pieces.text.ok.0))
