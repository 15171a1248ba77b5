use Rattle.std.proofs.Common.{◌≡◌, ◌+◌, ◌/◌, ◌++◌, length}
use Rattle.ks_aes_cbc.specs.Cbc.{cbc, cbc_blocks, pad}
use Rattle.ks_aes_cbc.specs.Columns.{block_of}
use Rattle.ks_aes_cbc.proofs.cbc.cbc_seal.Given as goal

abbrev pub invariant-loop-block : goal.invariant-loop-block
invariant-loop-block l =
    l.out.items ++ cbc_blocks (length l.left / 16 + 1) l.aes (block_of l.previous) (pad l.left) ≡ cbc l.key l.iv (pad l.plain)

abbrev pub decreases-loop-block : goal.decreases-loop-block
decreases-loop-block l = length l.left
