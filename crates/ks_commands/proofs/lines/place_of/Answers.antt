use Rattle.ks_commands.proofs.LineLemmas.{position_from_first}
use Rattle.ks_commands.proofs.lines.place_of.Goals as goal

pub returns : goal.returns
returns c = position_from_first c.args.byte c.args.text.now c.memchr.result c.memchr.ensures
