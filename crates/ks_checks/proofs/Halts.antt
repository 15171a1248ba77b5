-- What stops a check stops what comes behind it.
use Rattle.std.proofs.Common.{Err, refl}
use Rattle.ks_machine.specs.Attempts.{Attempt, ◌>>=◌}
use Rattle.ks_machine.specs.declared.cause.Cause.{Cause}
use Rattle.ks_machine.specs.Outcomes.{Outcome}
use Rattle.ks_checks.specs.Plans.{Passes, Plans}
use Rattle.ks_checks.specs.declared.halt.Halt.{Halt}
use Rattle.ks_checks.specs.declared.halt.Halt.TheVariants as halts

pub halted : (halt : Halt) (said : Attempt Cause (Unit {0})) (next : Unit {0} → Attempt Cause Outcome) →
    Passes (Err halt) said → Plans (Err halt) (said >>= next)
halted (halts.Refused cause) said next is = rw is refl
halted (halts.Needs needs) said next is = (is.0, is.1, rw is.2 refl)
halted halts.Memory said next is = tt
