use Rattle.std.proofs.Common.{sym, ◌∙◌}
use Rattle.ks_commands.proofs.LineLemmas.{token_line_is}
use Rattle.ks_commands.proofs.lines.token_line.Goals as goal

pub returns : goal.returns
returns c =
    let read = sym c.number.ensures ∙ c.in-Some-number.is in
    rw (c.split_at-2.ensures.back, c.split_at.ensures.back)
    (token_line_is c.args.line.now c.in-Some.place c.in-Some-number.reading (sym c.place_of.ensures ∙ c.in-Some.is) (rw c.split_at.ensures.front at read))
