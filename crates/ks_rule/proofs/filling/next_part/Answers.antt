use Rattle.std.proofs.Common.{◌∙◌, ap}
use Rattle.ks_rule.specs.Filling.{filled}
use Rattle.ks_rule.proofs.FillingLemmas.{filled_end, filled_none}
use Rattle.ks_rule.proofs.FillsLemmas.{part_plain, part_key, part_missing}
use Rattle.ks_rule.proofs.filling.next_part.Goals as goal

pub returns-in-End : goal.returns-in-End
returns-in-End c = ap (filled c.args.target.now) c.in-End.ensures ∙ filled_end c.args.target.now

pub returns-in-Plain : goal.returns-in-Plain
returns-in-Plain c = part_plain c.args.target.now c.in-Plain.text.now c.next_piece.new.self c.args.pieces.now c.in-Plain.ensures

pub returns-in-Some : goal.returns-in-Some
returns-in-Some c = part_key c.args.target.now c.in-Key.key.now c.in-Some.text.now c.next_piece.new.self c.args.pieces.now c.in-Key.ensures c.in-Some.ensures

pub returns-in-None : goal.returns-in-None
returns-in-None c = part_missing c.args.target.now c.in-Key.key.now c.next_piece.new.self c.args.pieces.now c.in-Key.ensures c.in-None.ensures

pub returns-in-Fault : goal.returns-in-Fault
returns-in-Fault c = filled_none c.args.target.now c.args.pieces.now c.in-Fault.ensures
