use Rattle.std.specs.Io.KnownBytes.{Keeps}
use Rattle.ks_outside.proofs.real_sink.write_uninterrupted.Given as goal

abbrev pub invariant-tries : goal.invariant-tries
invariant-tries g l = Keeps (g.W.Write.contents l.fn.writer) (g.W.Write.contents l.writer)
