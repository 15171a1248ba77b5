use Rattle.std.proofs.Common.{◌≡◌}
use Rattle.ks_aes_cbc.specs.Aes.{after_rounds}
use Rattle.ks_aes_cbc.specs.Columns.{block_of}
use Rattle.ks_aes_cbc.proofs.aes.Aes128.seal_columns.Given as goal

abbrev pub invariant-loop-i : goal.invariant-loop-i
invariant-loop-i l = block_of l.state ≡ after_rounds l.self-inside.key (block_of l.block) l.i
