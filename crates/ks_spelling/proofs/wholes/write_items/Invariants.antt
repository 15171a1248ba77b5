use Rattle.std.proofs.Common.{drop}
use Rattle.ks_spelling.proofs.LoopLemmas.{IsWriting}
use Rattle.ks_spelling.proofs.wholes.write_items.Given as goal

abbrev pub invariant-loop-item : goal.invariant-loop-item
invariant-loop-item g l = IsWriting _ g.T.Spelled.code l.items (drop l.item-index l.items) l.initial.into.items l.into.items
