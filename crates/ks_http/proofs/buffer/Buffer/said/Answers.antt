use Rattle.std.proofs.Common.{ap, ◌∙◌, take, map, slice_range}
use Rattle.httparse.specs.Spans.{header_bytes}
use Rattle.ks_http.proofs.SaysLemmas.{says_same}
use Rattle.ks_http.proofs.buffer.Buffer.said.Goals as goal

pub returns-clause-says : goal.returns-clause-says
returns-clause-says c h at =
    let same = c.window-bytes.ensures.window in
    says_same c.read.result
    (c.of-method.ensures ∙ (ap (λ b. slice_range b c.args.head.method.start c.args.head.method.end) same ∙ at.method))
    (c.of-target.ensures ∙ (ap (λ b. slice_range b c.args.head.path.start c.args.head.path.end) same ∙ at.path))
    at.version
    (ap (λ b. map (header_bytes b) c.split_at.result.0.now) same
    ∙ (ap (λ s. map (header_bytes (take 16384 c.args.self.now)) s) (c.split_at.ensures.front ∙ ap (λ s. take c.args.head.headers s) c.as_slice.ensures) ∙ at.fields))
    c.read.ensures
