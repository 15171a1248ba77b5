-- Who is admitted to a call: its caller, the token that it is about, and whom the rule of its action allows it.
-- Source: Identity API v3; oslo.policy.
use Rattle.std.specs.Prelude.{ℕ, Bool, true, false, List, Option, Some, None, codes}
use Rattle.ks_base.specs.declared.shapes.ShapeFault.TheVariants as shape
use Rattle.ks_base.specs.Rows.{Rows, Text}
use Rattle.ks_machine.specs.declared.call.Call.{Call}
use Rattle.ks_machine.specs.declared.cause.Cause.{Cause}
use Rattle.ks_machine.specs.declared.cause.Cause.TheVariants as cause
use Rattle.ks_machine.specs.declared.command.Command.{Command}
use Rattle.ks_machine.specs.Allowed.{allowed}
use Rattle.ks_machine.specs.Attempts.{Attempt, Go, ◌>>=◌, Known, blame, found, need}
use Rattle.ks_machine.specs.Openings.{NamedRule}
use Rattle.ks_machine.specs.States.{State}
use Rattle.ks_machine.specs.Targets.{credentials, target_of}
use Rattle.ks_machine.specs.Validity.{Valid, validity}

-- the request lacks this
abbrev pub missing : Text → Cause
missing name = cause.Shape (shape.Missing name)

-- tokens

-- the caller's token
unfoldable pub caller_of : Known → State → ℕ → Option Text → Attempt Cause Valid
caller_of known S moment given = do
  text ← found given cause.NoToken
  blame (λ why. cause.CallerToken why) (validity known S moment false text)

-- the token that a call is about; `late` says whether the request allows an expired one
unfoldable pub subject_of : Known → State → ℕ → Bool → Option Text → Attempt Cause Valid
subject_of known S moment late given = do
  text ← found given (missing (codes "X-Subject-Token"))
  blame (λ why. cause.SubjectToken why) (validity known S moment late text)

-- | the same, where the command asks for one
abbrev pub subject_asked : Known → State → ℕ → Bool → Option Text → Bool → Attempt Cause (Option Valid)
subject_asked known S moment late given false = Go None
subject_asked known S moment late given true = do
  subject ← subject_of known S moment late given
  Go (Some subject)

-- | the rule of this action allows it
abbrev pub allows : List NamedRule → Rows → Valid → Option Valid → Command → Text → Attempt Cause (Unit {0})
allows rules rows caller subject asked action =
    need (allowed rules action (credentials rows caller) (target_of rows subject asked)) (cause.Rule action)

-- | the caller and the subject, each where the command asks for one
pub record Parties : Type 0 where
  pub caller : Option Valid
  pub subject : Option Valid

abbrev pub nobody : Parties
nobody = record { caller = None; subject = None }

-- | whom a call admits; where no action is asked for, nobody has to be admitted
unfoldable pub admitted : Known → State → List NamedRule → Rows → ℕ → Call → Option Text → Bool → Bool → Attempt Cause Parties
admitted known S rules rows moment call None about late = Go nobody
admitted known S rules rows moment call (Some action) about late = do
  caller ← caller_of known S moment call.caller
  subject ← subject_asked known S moment late call.subject about
  _ ← allows rules rows caller subject call.command action
  Go (record { caller = Some caller; subject = subject })
