use Rattle.std.proofs.Common.{◌≡◌, ◌-◌, ◌<◌, ◌≤◌, length, get_or, sym, ap, subst, arith, rules}
use Rattle.std.specs.declared.collections.VecDeque.{VecDeque}
use Rattle.ks_chunks.specs.declared.chunk.TheConstants.{FULL}
use Rattle.ks_chunks.proofs.ChunkLemmas.{chunk_fits, items_zero, room_is, total}
use Rattle.ks_chunks.proofs.sequence.count.Goals as goal

pub overflow_mul-result : goal.overflow_mul-result
overflow_mul-result g c =
    let chunks = c.args.chunks.now in
    let last = c.in-Some.last.now in
    let some : 0 < length chunks = search rules in
    let is : last ≡ get_or chunks (length chunks - 1) last = search rules in
    let space = room_is FULL chunks (length chunks - 1) last c.requires.chunks (omega (arith, some)) in
    let there = ap (λ (c : VecDeque _ _). FULL - length c.items) (sym is) in
    let fits : length last.items ≤ FULL = subst (λ (c : VecDeque _ _). length c.items ≤ FULL) (sym is) (chunk_fits FULL chunks (length chunks - 1) last c.requires.chunks (omega (arith, some))).1 in
    let all = total FULL chunks c.requires.chunks in
    let len = last.ok.0 in
    omega (arith, some, c.requires.most)

pub overflow_add-result : goal.overflow_add-result
overflow_add-result g c =
    let chunks = c.args.chunks.now in
    let last = c.in-Some.last.now in
    let some : 0 < length chunks = search rules in
    let is : last ≡ get_or chunks (length chunks - 1) last = search rules in
    let space = room_is FULL chunks (length chunks - 1) last c.requires.chunks (omega (arith, some)) in
    let there = ap (λ (c : VecDeque _ _). FULL - length c.items) (sym is) in
    let fits : length last.items ≤ FULL = subst (λ (c : VecDeque _ _). length c.items ≤ FULL) (sym is) (chunk_fits FULL chunks (length chunks - 1) last c.requires.chunks (omega (arith, some))).1 in
    let all = total FULL chunks c.requires.chunks in
    let len = last.ok.0 in
    omega (arith, some, c.requires.most, fits, len)

pub returns-in-Some : goal.returns-in-Some
returns-in-Some g c =
    let chunks = c.args.chunks.now in
    let last = c.in-Some.last.now in
    let some : 0 < length chunks = search rules in
    let is : last ≡ get_or chunks (length chunks - 1) last = search rules in
    let space = room_is FULL chunks (length chunks - 1) last c.requires.chunks (omega (arith, some)) in
    let there = ap (λ (c : VecDeque _ _). FULL - length c.items) (sym is) in
    let fits : length last.items ≤ FULL = subst (λ (c : VecDeque _ _). length c.items ≤ FULL) (sym is) (chunk_fits FULL chunks (length chunks - 1) last c.requires.chunks (omega (arith, some))).1 in
    let all = total FULL chunks c.requires.chunks in
    let len = last.ok.0 in
    omega (arith, some, space, there, fits, all, len)

pub returns-in-None : goal.returns-in-None
returns-in-None g c = sym (items_zero c.args.chunks.now (search rules))
