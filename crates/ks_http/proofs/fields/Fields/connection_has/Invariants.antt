use Rattle.std.proofs.Common.{◌≡◌, drop, map}
use Rattle.httparse.specs.Spans.{header_bytes}
use Rattle.ks_http.specs.Fields.{connection_has}
use Rattle.ks_http.proofs.fields.Fields.connection_has.Given as goal

abbrev pub invariant-loop-field : goal.invariant-loop-field
invariant-loop-field l =
    connection_has l.word (map (header_bytes l.self.bytes.now) (drop l.field-index l.self.spans.now))
    ≡ connection_has l.word (map (header_bytes l.self.bytes.now) l.self.spans.now)
