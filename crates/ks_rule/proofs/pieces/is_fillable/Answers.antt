use Rattle.std.proofs.Common.{◌∙◌, sym}
use Rattle.ks_rule.proofs.FillingLemmas.{fillable_behind}
use Rattle.ks_rule.proofs.pieces.is_fillable.Goals as goal

pub pieces-preserved : goal.pieces-preserved
pieces-preserved c = sym (fillable_behind c.next_piece.result c.pieces.pieces c.next_piece.new.self c.next_piece.ensures c.in-Plain.is) ∙ c.pieces.invariant
