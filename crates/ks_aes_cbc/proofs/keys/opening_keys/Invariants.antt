use Rattle.std.proofs.Common.{◌≡◌, ◌-◌, ℕ, ◌<◌, [], length, get_or}
use Rattle.ks_aes_cbc.specs.Inverse.{unmix_columns}
use Rattle.ks_aes_cbc.specs.Columns.{block_of}
use Rattle.ks_aes_cbc.proofs.keys.opening_keys.Given as goal

abbrev pub invariant-loop-i : goal.invariant-loop-i
invariant-loop-i l =
    (length l.keys ≡ 9) × ((n : ℕ) → n < l.i → block_of (get_or l.keys n []) ≡ unmix_columns (block_of (get_or l.sealing (9 - n) [])))
