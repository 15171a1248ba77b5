use Rattle.std.proofs.Common.{take, Ok}
use Rattle.ks_outside.specs.Streams.{OnlyWrites}
use Rattle.ks_outside.specs.declared.failed.Failed.{Failed}
use Rattle.ks_http.specs.Responses.{field_lines}
use Rattle.ks_http.specs.steps.Writes.{Puts}
use Rattle.ks_http.proofs.outgoing.Outgoing.put_fields.Given as goal

abbrev pub invariant-loop-name : goal.invariant-loop-name
invariant-loop-name g l = record {
  told : Puts {E = Failed} l.fn.self (field_lines (take l.name-index l.fields)) l.self (g.K.Stream.stream l.fn.sink).written (g.K.Stream.stream l.sink).written (Ok (tt {0}));
  writes : OnlyWrites ⊥ (g.K.Stream.stream l.fn.sink) (g.K.Stream.stream l.sink);
}
