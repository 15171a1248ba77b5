use Rattle.std.proofs.Common.{◌≡◌, ◌+◌, ◌/◌, ◌%◌, ◌<◌, ◌≤◌, ◌++◌, ◌∷◌, refl, None, Some, suc, drop, take, length, get_or, set, sym, ap, subst, ◌∙◌, arith, rules}
use Rattle.std.specs.Prelude.{Option, option_to_list}
use Rattle.ks_chunks.specs.Chunks.{all_items, room}
use Rattle.ks_chunks.proofs.ChunkLemmas.{all_parted, chunk_fits, chunk_set, drop_set, insert_step, place_fits, room_before, room_behind, total}
use Rattle.ks_chunks.proofs.sequence.insert_in.Goals as goal

pub bounds-chunks-chunk : goal.bounds-chunks-chunk
bounds-chunks-chunk g c =
    let all = total 1024 c.args.chunks.now c.requires.chunks in
    omega (arith, all, c.requires.at, c.requires.room)

pub put-requires-clause-capacity : goal.put-requires-clause-capacity
put-requires-clause-capacity g c =
    let chunks = c.args.chunks.now in
    let q = c.args.at / 1024 in
    let all = total 1024 chunks c.requires.chunks in
    let some : q < length chunks = omega (arith, all, c.requires.at, c.requires.room) in
    (chunk_fits 1024 chunks q c.index-chunks-chunk.result c.requires.chunks some).0

pub put-requires-clause-full : goal.put-requires-clause-full
put-requires-clause-full g c =
    let chunks = c.args.chunks.now in
    let q = c.args.at / 1024 in
    let all = total 1024 chunks c.requires.chunks in
    let some : q < length chunks = omega (arith, all, c.requires.at, c.requires.room) in
    (chunk_fits 1024 chunks q c.index-chunks-chunk.result c.requires.chunks some).1

pub put-requires-clause-at : goal.put-requires-clause-at
put-requires-clause-at g c =
    let chunks = c.args.chunks.now in
    let q = c.args.at / 1024 in
    let all = total 1024 chunks c.requires.chunks in
    let some : q < length chunks = omega (arith, all, c.requires.at, c.requires.room) in
    place_fits 1024 chunks q (c.args.at % 1024) c.args.at c.index-chunks-chunk.result c.requires.chunks (omega arith) (omega arith) c.requires.at some

pub put_before-requires-clause-chunks : goal.put_before-requires-clause-chunks
put_before-requires-clause-chunks g c =
    let chunks = c.args.chunks.now in
    let q = c.args.at / 1024 in
    let all = total 1024 chunks c.requires.chunks in
    let some : q < length chunks = omega (arith, all, c.requires.at, c.requires.room) in
    let old = get_or chunks q c.index-chunks-chunk.result in
    let put = c.put.new.chunk in
    let is : old ≡ get_or chunks q old = search rules in
    chunk_set 1024 chunks q old put c.requires.chunks some is c.put.ensures.capacity c.put.ensures.most c.put.ensures.stays

pub put_before-requires-clause-room : goal.put_before-requires-clause-room
put_before-requires-clause-room g c =
    let chunks = c.args.chunks.now in
    let q = c.args.at / 1024 in
    let all = total 1024 chunks c.requires.chunks in
    let some : q < length chunks = omega (arith, all, c.requires.at, c.requires.room) in
    let old = get_or chunks q c.index-chunks-chunk.result in
    let put = c.put.new.chunk in
    let is : old ≡ get_or chunks q old = search rules in
    let next : q + 1 ≡ suc q = omega arith in
    let full : 1024 ≤ length old.items = c.in-Some.ensures.out.0 refl in
    subst (λ k. 0 < room 1024 (drop k (set chunks q put))) (sym next) (subst (λ l. 0 < room 1024 l) (sym (drop_set chunks q put))
    (subst (λ k. 0 < k) (sym (room_before 1024 chunks q c.requires.chunks some) ∙ room_behind 1024 chunks q old some is full) c.requires.room))

pub returns-in-Some-clause-items : goal.returns-in-Some-clause-items
returns-in-Some-clause-items g c =
    let chunks = c.args.chunks.now in
    let q = c.args.at / 1024 in
    let all = total 1024 chunks c.requires.chunks in
    let some : q < length chunks = omega (arith, all, c.requires.at, c.requires.room) in
    let old = get_or chunks q c.index-chunks-chunk.result in
    let put = c.put.new.chunk in
    let is : old ≡ get_or chunks q old = search rules in
    let next : q + 1 ≡ suc q = omega arith in
    let fits = place_fits 1024 chunks q (c.args.at % 1024) c.args.at c.index-chunks-chunk.result c.requires.chunks (omega arith) (omega arith) c.requires.at some in
    c.put_before.ensures.items
    ∙ ap (λ k. all_items (take k (set chunks q put)) ++ (c.in-Some.last ∷ all_items (drop k (set chunks q put)))) next
    ∙ insert_step 1024 chunks q (c.args.at % 1024) c.args.at old put c.args.item (Some c.in-Some.last) c.requires.chunks some (omega arith) is fits c.in-Some.ensures.items

pub returns-in_default-clause-items : goal.returns-in_default-clause-items
returns-in_default-clause-items g c =
    let chunks = c.args.chunks.now in
    let q = c.args.at / 1024 in
    let all = total 1024 chunks c.requires.chunks in
    let some : q < length chunks = omega (arith, all, c.requires.at, c.requires.room) in
    let old = get_or chunks q c.index-chunks-chunk.result in
    let put = c.put.new.chunk in
    let is : old ≡ get_or chunks q old = search rules in
    let none : c.put.result ≡ None = search rules in
    let fits = place_fits 1024 chunks q (c.args.at % 1024) c.args.at c.index-chunks-chunk.result c.requires.chunks (omega arith) (omega arith) c.requires.at some in
    sym (all_parted (set chunks q put) (suc q)) ∙ ap (λ (o : Option _). all_items (take (suc q) (set chunks q put)) ++ (option_to_list o ++ all_items (drop (suc q) (set chunks q put)))) (sym none)
    ∙ insert_step 1024 chunks q (c.args.at % 1024) c.args.at old put c.args.item c.put.result c.requires.chunks some (omega arith) is fits c.put.ensures.items

pub returns-in_default-clause-chunks : goal.returns-in_default-clause-chunks
returns-in_default-clause-chunks g c =
    let chunks = c.args.chunks.now in
    let q = c.args.at / 1024 in
    let all = total 1024 chunks c.requires.chunks in
    let some : q < length chunks = omega (arith, all, c.requires.at, c.requires.room) in
    let old = get_or chunks q c.index-chunks-chunk.result in
    let put = c.put.new.chunk in
    let is : old ≡ get_or chunks q old = search rules in
    chunk_set 1024 chunks q old put c.requires.chunks some is c.put.ensures.capacity c.put.ensures.most c.put.ensures.stays
