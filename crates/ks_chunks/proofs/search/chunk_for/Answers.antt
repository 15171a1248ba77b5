use Rattle.std.proofs.Common.{rules}
use Rattle.std.proofs.lemmas.Fn.{always_returns_same}
use Rattle.std.specs.declared.collections.VecDeque.{VecDeque}
use Rattle.ks_chunks.specs.Chunks.{last_side}
use Rattle.ks_chunks.proofs.search.chunk_for.Goals as goal

pub returns-clause-position : goal.returns-clause-position
returns-clause-position g c =
    c.binary_search_by.ensures.position (λ (chunk : VecDeque _ _). last_side (g.S.Seek.side c.args.sought.now) chunk.items) (always_returns_same _ _ _ (λ a r f called. (search rules, search rules)))
