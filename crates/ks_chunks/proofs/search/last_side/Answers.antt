use Rattle.std.proofs.Common.{rules, ◌∙◌, ◌-◌, sym, length}
use Rattle.ks_chunks.proofs.PlaceLemmas.{last_is, none_last}
use Rattle.ks_chunks.proofs.search.last_side.Goals as goal

pub returns-in-Some : goal.returns-in-Some
returns-in-Some g c =
    search rules ∙ sym (last_is (g.S.Seek.side c.args.sought.now) c.args.chunk.now.items (length c.args.chunk.now.items - 1) c.in-Some.item.now (search rules))

pub returns-in-None : goal.returns-in-None
returns-in-None g c = sym (none_last (g.S.Seek.side c.args.sought.now) c.args.chunk.now.items (search rules))
