use Rattle.std.proofs.Common.{drop}
use Rattle.ks_render.proofs.Steps.{IsListing}
use Rattle.ks_render.proofs.tell.write_items.Given as goal

-- What is written, and what is still to come, are the whole list.
abbrev pub invariant-loop-item : goal.invariant-loop-item
invariant-loop-item g l = IsListing (g.T.Tell.value l.url) g.T.Tell.is_tellable l.fn.out l.out (drop l.item-index l.items) l.items
