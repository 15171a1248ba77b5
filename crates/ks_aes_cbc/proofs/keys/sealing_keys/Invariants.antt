use Rattle.std.proofs.Common.{◌≡◌, ℕ, ◌≤◌, [], length, get_or}
use Rattle.ks_aes_cbc.specs.Aes.{round_key}
use Rattle.ks_aes_cbc.specs.Columns.{block_of}
use Rattle.ks_aes_cbc.proofs.keys.sealing_keys.Given as goal

abbrev pub invariant-loop-i : goal.invariant-loop-i
invariant-loop-i l =
    (length l.keys ≡ 11) × ((n : ℕ) → n ≤ l.i → block_of (get_or l.keys n []) ≡ round_key l.key n)
