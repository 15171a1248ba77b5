use Rattle.std.proofs.Common.{◌≡◌, ℕ, ◌<◌, ◌≤◌}
use Rattle.ks_totp.specs.Base32.{bit_of}
use Rattle.ks_totp.proofs.base32.any_set.Given as goal

abbrev pub invariant-loop-place : goal.invariant-loop-place
invariant-loop-place l = (n : ℕ) → l.from ≤ n → n < l.place → bit_of 5 l.fives n ≡ 0
