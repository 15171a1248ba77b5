use Rattle.std.proofs.Common.{◌≡◌, drop}
use Rattle.ks_commands.specs.Lines.{with_digits}
use Rattle.ks_commands.proofs.lines.digits.Given as goal

abbrev pub invariant-loop-digit : goal.invariant-loop-digit
invariant-loop-digit l = with_digits l.number (drop l.digit-index l.text) ≡ with_digits 0 l.text
