use Rattle.std.proofs.Common.{◌≡◌, ◌+◌, ◌/◌, ◌%◌, ◌<◌, suc, refl, drop, length, get_or, set, sym, ap, subst, ◌∙◌, arith, rules}
use Rattle.std.specs.List.{slice_get}
use Rattle.std.proofs.lemmas.Option.{get_or_from_slice_get, slice_get_read}
use Rattle.ks_chunks.specs.Chunks.{all_items, room}
use Rattle.ks_chunks.proofs.ChunkLemmas.{drop_set, item_is, items_some, place_within, remove_items, remove_lacking, room_less, total}
use Rattle.ks_chunks.proofs.sequence.remove_in.Goals as goal

pub bounds-chunks-chunk : goal.bounds-chunks-chunk
bounds-chunks-chunk g c =
    let all = total 1024 c.args.chunks.now c.requires.chunks in
    omega (arith, all, c.requires.at)

pub unreachable-requires : goal.unreachable-requires
unreachable-requires g c =
    let chunks = c.args.chunks.now in
    let q = c.args.at / 1024 in
    let all = total 1024 chunks c.requires.chunks in
    let some : q < length chunks = omega (arith, all, c.requires.at) in
    let within = place_within 1024 chunks q (c.args.at % 1024) c.args.at c.index-chunks-chunk.result c.requires.chunks (omega arith) (omega arith) c.requires.at some in
    let old = get_or chunks q c.index-chunks-chunk.result in
    let len = old.ok.0 in
    let there = c.in-None.ensures.variant.1 (omega (arith, within, len)) in
    cc

pub close_up-requires-clause-lacking : goal.close_up-requires-clause-lacking
close_up-requires-clause-lacking g c =
    let chunks = c.args.chunks.now in
    let q = c.args.at / 1024 in
    let all = total 1024 chunks c.requires.chunks in
    let some : q < length chunks = omega (arith, all, c.requires.at) in
    let old = get_or chunks q c.index-chunks-chunk.result in
    let left = c.remove.new.self in
    let is : old ≡ get_or chunks q old = search rules in
    let within = place_within 1024 chunks q (c.args.at % 1024) c.args.at c.index-chunks-chunk.result c.requires.chunks (omega arith) (omega arith) c.requires.at some in
    remove_lacking 1024 chunks q old left c.requires.chunks some is (omega (arith, c.in-Some.ensures.len, old.ok.0, left.ok.0)) (omega (arith, c.remove.ensures.capacity))

pub close_up-requires-clause-some : goal.close_up-requires-clause-some
close_up-requires-clause-some g c =
    let chunks = c.args.chunks.now in
    let q = c.args.at / 1024 in
    let all = total 1024 chunks c.requires.chunks in
    let some : q < length chunks = omega (arith, all, c.requires.at) in
    let next : q + 1 ≡ suc q = omega arith in
    let less = room_less 1024 chunks (suc q) c.requires.some in
    subst (λ k. room 1024 (drop k (set chunks q c.remove.new.self)) < 1024) (sym next) (subst (λ l. room 1024 l < 1024) (sym (drop_set chunks q c.remove.new.self)) less)

pub returns-clause-value : goal.returns-clause-value
returns-clause-value g c =
    let chunks = c.args.chunks.now in
    let q = c.args.at / 1024 in
    let all = total 1024 chunks c.requires.chunks in
    let some : q < length chunks = omega (arith, all, c.requires.at) in
    let old = get_or chunks q c.index-chunks-chunk.result in
    let left = c.remove.new.self in
    let is : old ≡ get_or chunks q old = search rules in
    let within = place_within 1024 chunks q (c.args.at % 1024) c.args.at c.index-chunks-chunk.result c.requires.chunks (omega arith) (omega arith) c.requires.at some in
    let there = slice_get_read old.items (length old.items) (c.args.at % 1024) c.in-Some.item refl within c.in-Some.ensures.value in
    sym (get_or_from_slice_get (all_items chunks) c.args.at c.in-Some.item c.in-Some.item
    (item_is 1024 chunks q (c.args.at % 1024) c.args.at c.requires.chunks (omega arith) (omega arith) ∙ ap (λ l. slice_get l (c.args.at % 1024)) (items_some chunks q old some is) ∙ there))

pub returns-clause-items : goal.returns-clause-items
returns-clause-items g c =
    let chunks = c.args.chunks.now in
    let q = c.args.at / 1024 in
    let all = total 1024 chunks c.requires.chunks in
    let some : q < length chunks = omega (arith, all, c.requires.at) in
    let old = get_or chunks q c.index-chunks-chunk.result in
    let left = c.remove.new.self in
    let is : old ≡ get_or chunks q old = search rules in
    let within = place_within 1024 chunks q (c.args.at % 1024) c.args.at c.index-chunks-chunk.result c.requires.chunks (omega arith) (omega arith) c.requires.at some in
    c.close_up.ensures.items ∙ remove_items 1024 chunks q (c.args.at % 1024) c.args.at old left c.requires.chunks some (omega arith) is within c.in-Some.ensures.items
