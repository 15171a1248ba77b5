use Rattle.ks_rule.proofs.PieceLemmas.{pieces_spelled}
use Rattle.ks_rule.proofs.laws.pieces_are_written_in_a_row.Goals as goal

pub returns : goal.returns
returns c = pieces_spelled
