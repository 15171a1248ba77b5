use Rattle.std.proofs.Common.{◌≡◌, ◌/◌, ◌%◌, ◌<◌, refl, length, get_or, sym, ap, ◌∙◌, arith, rules, length-set}
use Rattle.std.specs.List.{slice_get}
use Rattle.std.proofs.lemmas.Option.{get_or_from_slice_get, slice_get_read}
use Rattle.ks_chunks.specs.Chunks.{all_items}
use Rattle.ks_chunks.proofs.ChunkLemmas.{item_is, items_some, place_within, room_set, total, chunk_fits, chunk_set, set_items}
use Rattle.ks_chunks.proofs.sequence.replace_in.Goals as goal

pub bounds-chunks-at : goal.bounds-chunks-at
bounds-chunks-at g c =
    let all = total 1024 c.args.chunks.now c.requires.chunks in
    omega (arith, all, c.requires.at)

pub put_over-requires : goal.put_over-requires
put_over-requires g c =
    let chunks = c.args.chunks.now in
    let q = c.args.at / 1024 in
    let all = total 1024 chunks c.requires.chunks in
    let some : q < length chunks = omega (arith, all, c.requires.at) in
    place_within 1024 chunks q (c.args.at % 1024) c.args.at c.index-chunks-at.result c.requires.chunks (omega arith) (omega arith) c.requires.at some

pub returns-clause-items : goal.returns-clause-items
returns-clause-items g c =
    let chunks = c.args.chunks.now in
    let q = c.args.at / 1024 in
    let all = total 1024 chunks c.requires.chunks in
    let some : q < length chunks = omega (arith, all, c.requires.at) in
    let old = get_or chunks q c.index-chunks-at.result in
    let left = c.put_over.new.chunk in
    let is : old ≡ get_or chunks q old = search rules in
    let within = place_within 1024 chunks q (c.args.at % 1024) c.args.at c.index-chunks-at.result c.requires.chunks (omega arith) (omega arith) c.requires.at some in
    set_items 1024 chunks q (c.args.at % 1024) c.args.at old left c.args.item c.requires.chunks some (omega arith) is within c.put_over.ensures.items

pub returns-clause-chunks : goal.returns-clause-chunks
returns-clause-chunks g c =
    let chunks = c.args.chunks.now in
    let q = c.args.at / 1024 in
    let all = total 1024 chunks c.requires.chunks in
    let some : q < length chunks = omega (arith, all, c.requires.at) in
    let old = get_or chunks q c.index-chunks-at.result in
    let left = c.put_over.new.chunk in
    let is : old ≡ get_or chunks q old = search rules in
    let within = place_within 1024 chunks q (c.args.at % 1024) c.args.at c.index-chunks-at.result c.requires.chunks (omega arith) (omega arith) c.requires.at some in
    let size = ap length c.put_over.ensures.items ∙ length-set old.items (c.args.at % 1024) c.args.item in
    let fits = (chunk_fits 1024 chunks q c.index-chunks-at.result c.requires.chunks some).1 in
    chunk_set 1024 chunks q old left c.requires.chunks some is (omega (arith, c.put_over.ensures.capacity)) (omega (arith, size, fits)) (λ full. omega (arith, size, full))

pub returns-clause-value : goal.returns-clause-value
returns-clause-value g c =
    let chunks = c.args.chunks.now in
    let q = c.args.at / 1024 in
    let all = total 1024 chunks c.requires.chunks in
    let some : q < length chunks = omega (arith, all, c.requires.at) in
    let old = get_or chunks q c.index-chunks-at.result in
    let is : old ≡ get_or chunks q old = search rules in
    let within = place_within 1024 chunks q (c.args.at % 1024) c.args.at c.index-chunks-at.result c.requires.chunks (omega arith) (omega arith) c.requires.at some in
    let there = slice_get_read old.items (length old.items) (c.args.at % 1024) c.put_over.result refl within c.put_over.ensures.value in
    sym (get_or_from_slice_get (all_items chunks) c.args.at c.put_over.result c.put_over.result
    (item_is 1024 chunks q (c.args.at % 1024) c.args.at c.requires.chunks (omega arith) (omega arith) ∙ ap (λ l. slice_get l (c.args.at % 1024)) (items_some chunks q old some is) ∙ there))

pub returns-clause-room : goal.returns-clause-room
returns-clause-room g c =
    let chunks = c.args.chunks.now in
    let q = c.args.at / 1024 in
    let all = total 1024 chunks c.requires.chunks in
    let some : q < length chunks = omega (arith, all, c.requires.at) in
    let old = get_or chunks q c.index-chunks-at.result in
    let left = c.put_over.new.chunk in
    let is : old ≡ get_or chunks q old = search rules in
    room_set 1024 chunks q old left some is (ap length c.put_over.ensures.items ∙ length-set old.items (c.args.at % 1024) c.args.item)
