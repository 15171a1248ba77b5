use Rattle.std.proofs.Common.{◌≡◌, ◌*◌, map}
use Rattle.std.specs.List.{range_with_len}
use Rattle.ks_totp.specs.Base32.{eight_from}
use Rattle.ks_totp.proofs.base32.gathered.Given as goal

abbrev pub invariant-loop-i : goal.invariant-loop-i
invariant-loop-i l = l.bytes.items ≡ map (λ k. eight_from l.fives (8 * k)) (range_with_len 0 l.i)
