use Rattle.std.proofs.Common.{sym, ◌∙◌}
use Rattle.ks_commands.proofs.LineLemmas.{in_line_from_none, in_line_before, cut_at_place}
use Rattle.ks_commands.proofs.lines.first_line.Goals as goal

pub returns-in_default : goal.returns-in_default
returns-in_default c = in_line_from_none c.args.text.now (sym c.place_of.ensures ∙ c.in_default.is)

pub returns : goal.returns
returns c =
    let found = sym c.place_of.ensures ∙ c.in-Some.is in (
      rw c.split_at.ensures.front (in_line_before c.args.text.now c.in-Some.end found),
      rw (c.split_at.ensures.front, c.split_at-2.ensures.back, c.split_at.ensures.back) (cut_at_place 10 c.args.text.now c.in-Some.end found),
    )
