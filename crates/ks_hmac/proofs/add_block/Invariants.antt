use Rattle.std.proofs.Common.{◌≡◌, ℕ, ◌<◌, ◌≤◌, bit_xor, get_or, length, List}
use Rattle.ks_hmac.proofs.add_block.Given as goal

pub record IsAddedBelow (old block sum : List ℕ) (i : ℕ) : Type 0 where
  pub long : length sum ≡ 32
  pub before : (k : ℕ) → k < i → get_or sum k 0 ≡ bit_xor (get_or old k 0) (get_or block k 0)
  pub after : (k : ℕ) → i ≤ k → get_or sum k 0 ≡ get_or old k 0

abbrev pub invariant-loop-i : goal.invariant-loop-i
invariant-loop-i l = IsAddedBelow l.initial.sum l.block l.sum l.i
