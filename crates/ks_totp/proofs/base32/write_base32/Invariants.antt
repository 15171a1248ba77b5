use Rattle.std.proofs.Common.{◌≡◌, ◌*◌, map}
use Rattle.std.specs.List.{range_with_len}
use Rattle.std.specs.String.{string_bytes}
use Rattle.ks_totp.specs.Base32.{five_from, letter_of}
use Rattle.ks_totp.proofs.base32.write_base32.Given as goal

abbrev pub invariant-loop-i : goal.invariant-loop-i
invariant-loop-i l = string_bytes l.text ≡ map (λ k. letter_of (five_from l.bytes (5 * k))) (range_with_len 0 l.i)
