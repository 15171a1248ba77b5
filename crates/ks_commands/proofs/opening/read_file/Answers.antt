use Rattle.std.proofs.Common.{length, ap, arith}
use Rattle.ks_commands.proofs.OpeningLemmas.{reached_none, reached_piece}
use Rattle.ks_commands.proofs.opening.read_file.Goals as goal

pub returns-in_default-clause-reach : goal.returns-in_default-clause-reach
returns-in_default-clause-reach g c told left = reached_none told _ left

pub returns-then-is_err-clause-reach : goal.returns-then-is_err-clause-reach
returns-then-is_err-clause-reach g c told left =
    let read = c.pieces.invariant.told told left in
    reached_piece told c.pieces.text.items c.read.new.into c.in-Ok-read.count (g.F.Stream.stream c.pieces.file).left (g.F.Stream.stream c.read.new.self).left
    (omega (arith, c.pieces-test.true, c.len.ensures, c.pieces.text.ok.0))
    (omega (arith, c.in-Ok-read.ensures.within, ap length c.as_mut_slice.ensures.value, c.pieces.invariant.room))
    read (c.in-Ok-read.ensures.told read.0 read.2)
