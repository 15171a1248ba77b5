use Rattle.std.proofs.Common.{◌≡◌, drop, map}
use Rattle.httparse.specs.Spans.{header_bytes}
use Rattle.ks_http.specs.Fields.{has_field}
use Rattle.ks_http.proofs.fields.Fields.has.Given as goal

abbrev pub invariant-loop-field : goal.invariant-loop-field
invariant-loop-field l =
    has_field l.name (map (header_bytes l.self.bytes.now) (drop l.field-index l.self.spans.now))
    ≡ has_field l.name (map (header_bytes l.self.bytes.now) l.self.spans.now)
