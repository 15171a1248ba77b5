use Rattle.std.proofs.Common.{sym, ◌∙◌}
use Rattle.ks_http.proofs.Cuts.{cut_is}
use Rattle.ks_http.proofs.lines.cut.Goals as goal

pub returns : goal.returns
returns c = sym (cut_is c.args.byte c.args.text.now _ _ _ c.in-Some.place (sym c.place_of.ensures ∙ c.in-Some.is) c.split_at.ensures.front c.split_at.ensures.back c.split_at-2.ensures.back)
