use Rattle.std.proofs.Common.{◌≡◌, ℕ, ◌<◌, get_or, length}
use Rattle.ks_totp.specs.Base32.{letter_of}
use Rattle.ks_totp.proofs.base32.fives_of.Given as goal

abbrev pub invariant-loop-letter : goal.invariant-loop-letter
invariant-loop-letter l = record {
  long : length l.fives.items ≡ l.letter-index;
  each : (k : ℕ) → k < l.letter-index → (get_or l.fives.items k 0 < 32) × (letter_of (get_or l.fives.items k 0) ≡ get_or l.letters k 0);
}
