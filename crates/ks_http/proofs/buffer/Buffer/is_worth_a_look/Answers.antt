use Rattle.std.proofs.Common.{length, ap, arith}
use Rattle.std.proofs.lemmas.List.{length-take}
use Rattle.ks_http.proofs.BufferLemmas.{no_feed_in}
use Rattle.ks_http.proofs.buffer.Buffer.is_worth_a_look.Goals as goal

pub returns-clause-short : goal.returns-clause-short
returns-clause-short c = λ none. omega (arith, length-take 16384 c.args.self.now, ap (λ l. length l) c.window-window.ensures.window)

pub returns-clause-clear : goal.returns-clause-clear
returns-clause-clear c =
    no_feed_in c.args.self.now c.window-window.result.now c.split_at.result.1.now c.args.before c.min.result c.contains.result
    c.window-window.ensures.window c.if-window-eq-HEAD_BYTES.false c.min.ensures c.split_at.ensures.back c.contains.ensures.value
