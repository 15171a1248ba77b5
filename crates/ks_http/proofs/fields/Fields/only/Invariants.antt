use Rattle.std.proofs.Common.{drop, map}
use Rattle.httparse.specs.Spans.{header_bytes}
use Rattle.ks_http.specs.Fields.{values_of}
use Rattle.ks_http.specs.steps.Says.{Begun}
use Rattle.ks_http.proofs.fields.Fields.only.Given as goal

abbrev pub invariant-loop-field : goal.invariant-loop-field
invariant-loop-field l =
    Begun (values_of l.name (map (header_bytes l.self.bytes.now) (drop l.field-index l.self.spans.now))) l.found
    (values_of l.name (map (header_bytes l.self.bytes.now) l.self.spans.now))
