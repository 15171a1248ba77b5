use Rattle.std.proofs.Common.{◌≡◌, take}
use Rattle.ks_http.specs.Fields.{number_of}
use Rattle.ks_http.specs.steps.Says.{capped}
use Rattle.ks_http.proofs.values.capped_number.Given as goal

abbrev pub invariant-loop-digit : goal.invariant-loop-digit
invariant-loop-digit l = l.number ≡ capped (number_of (take l.digit-index l.digits))
