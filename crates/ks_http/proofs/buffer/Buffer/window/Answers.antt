use Rattle.std.proofs.Common.{◌≡◌, rules, take, ap, ◌∙◌}
use Rattle.std.proofs.lemmas.List.{take_min}
use Rattle.ks_http.proofs.buffer.Buffer.window.Goals as goal

pub returns-clause-window : goal.returns-clause-window
returns-clause-window c =
    let same : c.as_slice-bytes.result.now ≡ c.args.self.now = search rules in
    rw (c.split_at.ensures.front, c.min.ensures) (take_min 16384 c.as_slice-bytes.result.now ∙ ap (λ l. take 16384 l) same)
