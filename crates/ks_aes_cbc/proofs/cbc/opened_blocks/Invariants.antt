use Rattle.std.proofs.Common.{◌≡◌, ◌/◌, ◌%◌, ◌++◌, length}
use Rattle.ks_aes_cbc.specs.Aes.{AreBytes}
use Rattle.ks_aes_cbc.specs.Inverse.{uncbc_blocks}
use Rattle.ks_aes_cbc.specs.Columns.{block_of}
use Rattle.ks_aes_cbc.proofs.cbc.opened_blocks.Given as goal

abbrev pub invariant-loop-block : goal.invariant-loop-block
invariant-loop-block l =
    (l.out.items ++ uncbc_blocks (length l.left / 16) l.aes (block_of l.previous) l.left ≡ uncbc_blocks (length l.sealed / 16) l.aes l.iv l.sealed)
    × AreBytes l.left × (length l.left % 16 ≡ 0)

abbrev pub decreases-loop-block : goal.decreases-loop-block
decreases-loop-block l = length l.left
