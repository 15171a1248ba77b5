use Rattle.std.proofs.Common.{arith, length, sym, subst, ap, ◌∙◌}
use Rattle.ks_chunks.specs.Chunks.{AreChunks, all_items}
use Rattle.ks_chunks.specs.declared.chunk.TheConstants.{FULL}
use Rattle.ks_chunks.proofs.ChunkLemmas.{no_chunks, no_items}
use Rattle.ks_chunks.proofs.sequence.Sequence.new.Goals as goal

pub invariant_of-result : goal.invariant_of-result
invariant_of-result g c = (subst (AreChunks FULL) (sym c.new.ensures.items) (no_chunks _ _ FULL), omega (arith, ap length c.new.ensures.items))

pub returns : goal.returns
returns g c = ap all_items c.new.ensures.items ∙ no_items _ _
