use Rattle.std.proofs.Common.{◌≡◌, length, sym, ap, subst, ◌∙◌, arith, rules, false, [], ◌∷◌, length-append}
use Rattle.ks_chunks.specs.Chunks.{AreChunks, Items, all_items, room}
use Rattle.ks_chunks.specs.declared.chunk.TheConstants.{FULL}
use Rattle.ks_chunks.proofs.ChunkLemmas.{chunk_pushed, items_pushed, room_pushed}
use Rattle.ks_chunks.proofs.sequence.Sequence.reserve.Goals as goal

pub invariant_of-self : goal.invariant_of-self
invariant_of-self g c =
    let no : c.has_room.result ≡ false = search rules in
    let none = sym (ap (room FULL) c.as_slice.ensures.value) ∙ c.has_room.ensures.no no in
    let empty = ap length c.in_ok-chunk.ensures.items in
    let chunks = subst (AreChunks FULL) (sym c.in_ok-push.ensures.items)
    (chunk_pushed FULL c.self.inside.chunks.items c.in_ok-chunk.chunk c.self.invariant.0 none c.in_ok-chunk.ensures.capacity (omega (arith, empty))) in
    (chunks, omega (arith, ap length c.in_ok-push.ensures.items, length-append c.self.inside.chunks.items (c.in_ok-chunk.chunk ∷ []), c.self.invariant.1, c.if-len-eq-MOST.false, c.self.inside.chunks.ok.0))

pub returns-in_ok-push-clause-items : goal.returns-in_ok-push-clause-items
returns-in_ok-push-clause-items g c = ap all_items c.in_ok-push.ensures.items ∙ items_pushed c.self.inside.chunks.items c.in_ok-chunk.chunk c.in_ok-chunk.ensures.items
    ∙ ap (λ (all : Items _). all.items) c.self.view_is

pub returns-in_ok-push-clause-ok : goal.returns-in_ok-push-clause-ok
returns-in_ok-push-clause-ok g c =
    let more = ap (room FULL) c.in_ok-push.ensures.items ∙ room_pushed FULL c.self.inside.chunks.items c.in_ok-chunk.chunk in
    let none = ap length c.in_ok-chunk.ensures.items in
    omega (arith, more, none)
