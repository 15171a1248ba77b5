use Rattle.std.proofs.Common.{◌≡◌, ◌+◌, ◌<◌, ◌≤◌, ◌∷◌, ◌++◌, [], suc, length, length-set, get_or, set, sym, ap, subst, ◌∙◌, arith, rules, drop}
use Rattle.std.specs.declared.collections.VecDeque.{VecDeque}
use Rattle.std.specs.VecDeque.{deque_capacity, deque_len}
use Rattle.ks_chunks.specs.Chunks.{AreLacking, all_items, room}
use Rattle.ks_chunks.specs.declared.chunk.TheConstants.{FULL}
use Rattle.ks_chunks.proofs.ChunkLemmas.{behind_closed, close_items, close_lacking, get_before, lacking_fits, last_lacking, next_some, room_falls}
use Rattle.ks_chunks.proofs.sequence.close_up.Goals as goal

pub push_back_reserved-requires : goal.push_back_reserved-requires
push_back_reserved-requires g c =
    let chunks = c.loop-at.chunks in
    let at = c.loop-at.at in
    let d = c.index-chunks-at-in-Some.result in
    let next : at + 1 ≡ suc at = omega arith in
    let same : get_or (set chunks (at + 1) c.pop_front.new.self) at d ≡ get_or chunks at d = ap (λ k. get_or (set chunks k c.pop_front.new.self) at d) next ∙ get_before chunks at c.pop_front.new.self d in
    let fits = lacking_fits FULL chunks at d c.loop-at.invariant.lacking in
    let len = (get_or chunks at d).ok.0 in
    subst (λ (c : VecDeque _ _). deque_len c < deque_capacity c) (sym same) (omega (arith, fits, len))

pub unreachable-requires : goal.unreachable-requires
unreachable-requires g c =
    let chunks = c.loop-at.chunks in
    let at = c.loop-at.at in
    let next : at + 1 ≡ suc at = omega arith in
    let lt : suc at < length chunks = omega (arith, c.loop-at-test.true, c.loop-at.invariant.len, c.saturating_sub-last.ensures) in
    let some = next_some FULL chunks at c.index-chunks-at.result c.loop-at.invariant.lacking lt (subst (λ k. room FULL (drop k chunks) < FULL) next c.loop-at.invariant.some) in
    let len = (get_or chunks (at + 1) c.index-chunks-at.result).ok.0 in
    let there = subst (λ k. 0 < length (get_or chunks k c.index-chunks-at.result).items) (sym next) some in
    omega (arith, there, len, c.in-None.ensures.cases.0)

pub returns-clause-chunks : goal.returns-clause-chunks
returns-clause-chunks g c = (last_lacking FULL c.loop-at.chunks c.loop-at.at c.loop-at.invariant.lacking (omega (arith, c.loop-at-test.false, c.loop-at.invariant.len, c.saturating_sub-last.ensures))).0

pub returns-clause-room : goal.returns-clause-room
returns-clause-room g c = (last_lacking FULL c.loop-at.chunks c.loop-at.at c.loop-at.invariant.lacking (omega (arith, c.loop-at-test.false, c.loop-at.invariant.len, c.saturating_sub-last.ensures))).1

pub loop-at-preserved : goal.loop-at-preserved
loop-at-preserved g c =
    let chunks = c.loop-at.chunks in
    let at = c.loop-at.at in
    let next : at + 1 ≡ suc at = omega arith in
    let lt : suc at < length chunks = omega (arith, c.loop-at-test.true, c.loop-at.invariant.len, c.saturating_sub-last.ensures) in
    let less = c.pop_front.new.self in
    let more = c.push_back_reserved.new.self in
    let item = c.in-Some.item in
    let d = c.index-chunks-at-in-Some.result in
    let a = get_or chunks at d in
    let b = get_or chunks (at + 1) c.index-chunks-at.result in
    let is_a : a ≡ get_or chunks at a = search rules in
    let is_b : b ≡ get_or chunks (suc at) b = search rules in
    let same : get_or (set chunks (at + 1) less) at d ≡ a = ap (λ k. get_or (set chunks k less) at d) next ∙ get_before chunks at less d in
    let grown : more.items ≡ a.items ++ item ∷ [] = c.push_back_reserved.ensures.items ∙ ap (λ (c : VecDeque _ _). c.items ++ item ∷ []) same in
    let cut : b.items ≡ item ∷ less.items = c.in-Some.ensures.items in
    let closed : set (set chunks (at + 1) less) at more ≡ set (set chunks (suc at) less) at more = ap (λ k. set (set chunks k less) at more) next in
    let fits_a : deque_capacity a ≤ deque_capacity more = omega (arith, c.push_back_reserved.ensures.capacity, ap (λ (c : VecDeque _ _). deque_capacity c) same) in
    let fits_b : deque_capacity b ≤ deque_capacity less = omega (arith, c.pop_front.ensures.capacity) in
    let lacking = close_lacking FULL chunks at a b less more item c.loop-at.invariant.lacking lt is_a is_b grown cut fits_a fits_b in
    let some = subst (λ k. room FULL (drop k chunks) < FULL) next c.loop-at.invariant.some in
    let falls = room_falls FULL chunks (suc at) in
    let further : at + 1 + 1 ≡ suc (suc at) = omega arith in
    let left : room FULL (drop (suc (suc at)) chunks) < FULL = omega (arith, some, falls) in
    record {
      lacking = subst (λ k. AreLacking FULL k (set (set chunks (at + 1) less) at more)) (sym next) (subst (AreLacking FULL (suc at)) (sym closed) lacking);
      some = subst (λ k. room FULL (drop k (set (set chunks (at + 1) less) at more)) < FULL) (sym further)
          (subst (λ l. room FULL (drop (suc (suc at)) l) < FULL) (sym closed) (subst (λ l. room FULL l < FULL) (sym (behind_closed chunks at less more)) left));
      items = ap all_items closed ∙ close_items chunks at a b less more item lt is_a is_b grown cut ∙ c.loop-at.invariant.items;
      len = length-set (set chunks (at + 1) less) at more ∙ length-set chunks (at + 1) less ∙ c.loop-at.invariant.len;
    }
