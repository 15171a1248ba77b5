use Rattle.std.proofs.Common.{◌≡◌, ◌≤◌, true, subst, arith, rules}
use Rattle.ks_chunks.specs.Chunks.{room}
use Rattle.ks_chunks.specs.declared.chunk.TheConstants.{FULL}
use Rattle.ks_chunks.proofs.ChunkLemmas.{cut_by}
use Rattle.ks_chunks.proofs.sequence.trim.Goals as goal

pub returns-then-ends_empty-clause-items : goal.returns-then-ends_empty-clause-items
returns-then-ends_empty-clause-items g c =
    let yes : c.ends_empty.result ≡ true = search rules in
    let all : FULL ≤ room FULL c.args.chunks.now.items = subst (λ l. FULL ≤ room FULL l) c.as_slice.ensures.value (c.ends_empty.ensures.yes yes) in
    (cut_by FULL c.args.chunks.now.items c.pop.new.self.items c.pop.result c.pop.ensures.items (λ lt. c.pop.ensures.variant.1 (omega (arith, lt, c.args.chunks.now.ok.0))) c.requires all (omega arith)).0

pub returns-then-ends_empty-clause-chunks : goal.returns-then-ends_empty-clause-chunks
returns-then-ends_empty-clause-chunks g c =
    let yes : c.ends_empty.result ≡ true = search rules in
    let all : FULL ≤ room FULL c.args.chunks.now.items = subst (λ l. FULL ≤ room FULL l) c.as_slice.ensures.value (c.ends_empty.ensures.yes yes) in
    (cut_by FULL c.args.chunks.now.items c.pop.new.self.items c.pop.result c.pop.ensures.items (λ lt. c.pop.ensures.variant.1 (omega (arith, lt, c.args.chunks.now.ok.0))) c.requires all (omega arith)).1

pub returns-then-ends_empty-clause-some : goal.returns-then-ends_empty-clause-some
returns-then-ends_empty-clause-some g c =
    let yes : c.ends_empty.result ≡ true = search rules in
    let all : FULL ≤ room FULL c.args.chunks.now.items = subst (λ l. FULL ≤ room FULL l) c.as_slice.ensures.value (c.ends_empty.ensures.yes yes) in
    (cut_by FULL c.args.chunks.now.items c.pop.new.self.items c.pop.result c.pop.ensures.items (λ lt. c.pop.ensures.variant.1 (omega (arith, lt, c.args.chunks.now.ok.0))) c.requires all (omega arith)).2
