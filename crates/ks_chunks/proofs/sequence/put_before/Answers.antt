use Rattle.std.proofs.Common.{◌≡◌, ◌+◌, ◌<◌, ◌++◌, get_or, set, suc, sym, ap, subst, ◌∙◌, arith, refl, rules, length-set, drop, take, Some, None}
use Rattle.std.specs.Prelude.{option_to_list, IsSome, Option}
use Rattle.ks_chunks.specs.Chunks.{all_items, room}
use Rattle.ks_chunks.specs.declared.chunk.TheConstants.{FULL}
use Rattle.ks_chunks.proofs.ChunkLemmas.{all_parted, chunk_fits, chunk_set, drop_set, put_step, room_behind, room_within}
use Rattle.ks_chunks.proofs.sequence.put_before.Goals as goal

pub loop-carried-init : goal.loop-carried-init
loop-carried-init g c =
    let within = room_within FULL c.args.chunks.now c.args.from c.requires.room in
    record {
      items = refl;
      chunks = c.requires.chunks;
      room = λ some. c.requires.room;
      len = refl;
      within = omega (arith, within);
    }

pub bounds-chunks-at : goal.bounds-chunks-at
bounds-chunks-at g c =
    let some : IsSome c.loop-carried.carried = search rules in
    room_within FULL c.loop-carried.chunks c.loop-carried.at (c.loop-carried.invariant.room some)

pub put-carried-requires-clause-capacity : goal.put-carried-requires-clause-capacity
put-carried-requires-clause-capacity g c =
    let some : IsSome c.loop-carried.carried = search rules in
    (chunk_fits FULL c.loop-carried.chunks c.loop-carried.at c.index-chunks-at.result c.loop-carried.invariant.chunks
    (room_within FULL c.loop-carried.chunks c.loop-carried.at (c.loop-carried.invariant.room some))).0

pub put-carried-requires-clause-full : goal.put-carried-requires-clause-full
put-carried-requires-clause-full g c =
    let some : IsSome c.loop-carried.carried = search rules in
    (chunk_fits FULL c.loop-carried.chunks c.loop-carried.at c.index-chunks-at.result c.loop-carried.invariant.chunks
    (room_within FULL c.loop-carried.chunks c.loop-carried.at (c.loop-carried.invariant.room some))).1

pub loop-carried-smaller : goal.loop-carried-smaller
loop-carried-smaller g c =
    let some : IsSome c.loop-carried.carried = search rules in
    let within = room_within FULL c.loop-carried.chunks c.loop-carried.at (c.loop-carried.invariant.room some) in
    let same = length-set c.loop-carried.chunks c.loop-carried.at c.put-carried.new.chunk in
    omega (arith, within, same)

pub loop-carried-preserved : goal.loop-carried-preserved
loop-carried-preserved g c =
    let chunks = c.loop-carried.chunks in
    let at = c.loop-carried.at in
    let old = get_or chunks at c.index-chunks-at.result in
    let put = c.put-carried.new.chunk in
    let carried : c.loop-carried.carried ≡ Some c.in-Some.item = search rules in
    let some : IsSome c.loop-carried.carried = search rules in
    let room_there = c.loop-carried.invariant.room some in
    let within = room_within FULL chunks at room_there in
    let is : old ≡ get_or chunks at old = search rules in
    let next : at + 1 ≡ suc at = omega arith in
    let fits = chunk_fits FULL chunks at c.index-chunks-at.result c.loop-carried.invariant.chunks within in
    record {
      items = ap (λ k. all_items (take k (set chunks at put)) ++ (option_to_list c.put-carried.result ++ all_items (drop k (set chunks at put)))) next
          ∙ put_step chunks at old put c.in-Some.item c.put-carried.result within is c.put-carried.ensures.items
          ∙ sym (ap (λ o. all_items (take at chunks) ++ (option_to_list o ++ all_items (drop at chunks))) carried) ∙ c.loop-carried.invariant.items;
      chunks = chunk_set FULL chunks at old put c.loop-carried.invariant.chunks within is c.put-carried.ensures.capacity
          c.put-carried.ensures.most c.put-carried.ensures.stays;
      room = λ out. subst (λ k. 0 < room FULL (drop k (set chunks at put))) (sym next) (subst (λ l. 0 < room FULL l) (sym (drop_set chunks at put))
          (subst (λ k. 0 < k) (room_behind FULL chunks at old within is (c.put-carried.ensures.out.0 out)) room_there));
      len = length-set chunks at put ∙ c.loop-carried.invariant.len;
      within = omega (arith, within, length-set chunks at put);
    }

pub returns-clause-items : goal.returns-clause-items
returns-clause-items g c =
    let none : c.loop-carried.carried ≡ None = search rules in
    sym (all_parted c.loop-carried.chunks c.loop-carried.at)
    ∙ sym (ap (λ (o : Option _). all_items (take c.loop-carried.at c.loop-carried.chunks) ++ (option_to_list o ++ all_items (drop c.loop-carried.at c.loop-carried.chunks))) none) ∙ c.loop-carried.invariant.items
