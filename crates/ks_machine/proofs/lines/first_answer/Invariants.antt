use Rattle.std.proofs.Common.{◌≡◌, drop}
use Rattle.ks_machine.specs.TokenLines.{first_opened}
use Rattle.ks_machine.proofs.lines.first_answer.Given as goal

abbrev pub invariant-loop-key : goal.invariant-loop-key
invariant-loop-key l = first_opened (drop l.key-index l.keys) l.text ≡ first_opened l.keys l.text
