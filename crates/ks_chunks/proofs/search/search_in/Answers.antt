use Rattle.std.proofs.Common.{◌≡◌, ◌+◌, ◌*◌, ◌-◌, length, get_or, arith, ap, sym, subst, ◌∙◌, rules}
use Rattle.std.specs.declared.collections.VecDeque.{VecDeque}
use Rattle.std.specs.declared.cmp.Ordering.TheVariants.{Less, Greater}
use Rattle.std.specs.List.Sorted.{IsNonDecreasingBy, IsPartitionPoint}
use Rattle.std.specs.Ordering.{ordering_index}
use Rattle.ks_chunks.specs.Chunks.{all_items, last_side}
use Rattle.ks_chunks.proofs.PlaceLemmas.{at_end, end_found, gap_fits, gap_found, in_chunk}
use Rattle.ks_chunks.proofs.search.search_in.Goals as goal

pub overflow_sub-result : goal.overflow_sub-result
overflow_sub-result g c =
    let chunk = c.index-chunks-chunk.result in
    let count : c.len.result ≡ length chunk.items = search rules in
    let end = at_end (g.S.Seek.side c.args.sought.now) 1024 c.args.chunks.now c.requires.chunks c.in-Ok.chunk chunk (search rules) c.index-chunks-chunk.is (ap (λ (chunk : VecDeque _ _). last_side (g.S.Seek.side c.args.sought.now) chunk.items) c.index-chunks-chunk.is ∙ search rules) in
    omega (arith, end.0, count)

pub returns-in-Ok-clause-bound : goal.returns-in-Ok-clause-bound
returns-in-Ok-clause-bound g c =
    let chunk = c.index-chunks-chunk.result in
    let count : c.len.result ≡ length chunk.items = search rules in
    let end = at_end (g.S.Seek.side c.args.sought.now) 1024 c.args.chunks.now c.requires.chunks c.in-Ok.chunk chunk (search rules) c.index-chunks-chunk.is (ap (λ (chunk : VecDeque _ _). last_side (g.S.Seek.side c.args.sought.now) chunk.items) c.index-chunks-chunk.is ∙ search rules) in
    omega (arith, end.1, count)

pub returns-in-Ok-clause-position : goal.returns-in-Ok-clause-position
returns-in-Ok-clause-position g c = λ d.
    let chunk = c.index-chunks-chunk.result in
    let count : c.len.result ≡ length chunk.items = search rules in
    let end = at_end (g.S.Seek.side c.args.sought.now) 1024 c.args.chunks.now c.requires.chunks c.in-Ok.chunk chunk (search rules) c.index-chunks-chunk.is (ap (λ (chunk : VecDeque _ _). last_side (g.S.Seek.side c.args.sought.now) chunk.items) c.index-chunks-chunk.is ∙ search rules) in
    ap (λ k. g.S.Seek.side c.args.sought.now (get_or (all_items c.args.chunks.now) (c.in-Ok.chunk * 1024 + k - 1) d)) count ∙ end.2 d

pub returns-in-Ok-place_in-clause-bound : goal.returns-in-Ok-place_in-clause-bound
returns-in-Ok-place_in-clause-bound g c =
    (in_chunk (g.S.Seek.side c.args.sought.now) 1024 c.args.chunks.now c.requires.chunks c.in-Err.chunk c.in-Ok-place_in.at c.in-Some.items.now (search rules) (search rules) (search rules)).0

pub returns-in-Ok-place_in-clause-position : goal.returns-in-Ok-place_in-clause-position
returns-in-Ok-place_in-clause-position g c = λ d.
    ap (g.S.Seek.side c.args.sought.now)
    ((in_chunk (g.S.Seek.side c.args.sought.now) 1024 c.args.chunks.now c.requires.chunks c.in-Err.chunk c.in-Ok-place_in.at c.in-Some.items.now (search rules) (search rules) (search rules)).1 d)
    ∙ search rules

pub returns-in-Err-place_in-clause-bound : goal.returns-in-Err-place_in-clause-bound
returns-in-Err-place_in-clause-bound g c =
    gap_fits (g.S.Seek.side c.args.sought.now) 1024 c.args.chunks.now c.requires.chunks c.in-Err.chunk c.in-Err-place_in.at c.in-Some.items.now (search rules) (search rules) (search rules)

pub returns-in-Err-place_in-clause-position : goal.returns-in-Err-place_in-clause-position
returns-in-Err-place_in-clause-position g c =
    gap_found (g.S.Seek.side c.args.sought.now) 1024 c.args.chunks.now c.requires.chunks c.in-Err.chunk c.in-Err-place_in.at c.in-Some.items.now (omega arith) (search rules) (search rules) (search rules) (search rules) (search rules)

pub returns-in-None-clause-position : goal.returns-in-None-clause-position
returns-in-None-clause-position g c =
    let side = g.S.Seek.side c.args.sought.now in
    subst (λ at. IsNonDecreasingBy (λ x. ordering_index (side x)) (all_items c.args.chunks.now) → IsPartitionPoint (λ x. side x ≡ Less) (λ x. side x ≡ Greater) (all_items c.args.chunks.now) at)
    (sym c.count.ensures)
    (end_found side 1024 c.args.chunks.now c.requires.chunks c.in-Err.chunk (omega arith) (search rules) (search rules) (search rules))
