use Rattle.std.proofs.Common.{flat_map, take, Ok}
use Rattle.ks_outside.specs.Streams.{OnlyWrites}
use Rattle.ks_outside.specs.declared.failed.Failed.{Failed}
use Rattle.ks_http.specs.steps.Writes.{Puts}
use Rattle.ks_http.proofs.outgoing.Outgoing.put_all.Given as goal

abbrev pub invariant-loop-piece : goal.invariant-loop-piece
invariant-loop-piece g l = record {
  told : Puts {E = Failed} l.fn.self (flat_map (λ piece. piece.now) (take l.piece-index l.pieces)) l.self (g.K.Stream.stream l.fn.sink).written (g.K.Stream.stream l.sink).written (Ok (tt {0}));
  writes : OnlyWrites ⊥ (g.K.Stream.stream l.fn.sink) (g.K.Stream.stream l.sink);
}
