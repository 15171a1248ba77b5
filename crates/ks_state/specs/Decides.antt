-- What a value that decides calls owes.
use Rattle.std.specs.Prelude.{◌≡◌, ℕ, ◌≤◌, ◌⊎◌, None, length}
use Rattle.ks_auth.specs.Facts.{FactsState, told}
use Rattle.ks_base.specs.declared.limits.TheConstants.{KEYS}
use Rattle.ks_laws.specs.Lacking.{IsLack, IsUnknown}
use Rattle.ks_machine.specs.declared.call.Call.{Call}
use Rattle.ks_machine.specs.declared.cause.Cause.TheVariants as cause
use Rattle.ks_machine.specs.declared.reply.Reply.{Reply}
use Rattle.ks_machine.specs.declared.reply.Reply.TheVariants as reply
use Rattle.ks_machine.specs.Attempts.{Lack}
use Rattle.ks_machine.specs.Fronts.{Front, after, answer, replay, then}
use Rattle.ks_machine.specs.Moment.{moment_of}
use Rattle.ks_machine.specs.Steps.{Needs as Lacking, step}
use Rattle.ks_machine.specs.Told.{IsTellable}
use Rattle.ks_checks.specs.declared.halt.Needs.{Needs}
use Rattle.ks_checks.specs.Plans.{Names}
use Rattle.ks_state.specs.declared.decision.Decision.{Decision}
use Rattle.ks_state.specs.declared.decision.Decision.TheVariants as decision

-- the front, of whose changes so many are kept
abbrev pub with_kept : Front → ℕ → Front
with_kept f count = record f { kept = count }

-- | facts are asked for of a call after a front: what the first check of the plain machine's step lacks, by the facts that are known
pub record IsAsked (f : Front) (call : Call) (facts : FactsState) (needs : Needs) : Type 0 where
  pub lack : Lack
  pub names : Names needs lack
  pub lacks : step (told facts) (replay f) call ≡ Lacking lack
  -- it can be found out, and is not known
  pub found : IsLack (replay f) call lack
  pub unknown : IsUnknown (told facts) call lack
  -- and it is of 32 keys at most
  pub few : length (replay f).ring.held ≤ KEYS

-- a reply has a text for each moment in it
abbrev pub CanBeTold : Decision → Type 0
CanBeTold (decision.Done said) = IsTellable said
CanBeTold (decision.Needs needs) = Unit {0}

-- for which fronts a value stands, and how many of their changes are kept
module _ {S : Type 0} (means : S → Front → Type 0) (kept : S → ℕ) where
  -- a call after a front is replied: as the plain machine answers, and then the value stands for the front after the call; or for
  -- want of memory, and then it stands for the same front with no change, at the moment of the call or as it was
  abbrev pub Replied : Front → Call → Reply → S → Type 0
  Replied f call said new =
      ((said ≡ answer f call) × means new (with_kept (after f call) (kept new)))
      ⊎ ((said ≡ reply.Refused cause.Memory)
      × (means new (with_kept (then f (moment_of f.high call.reading) None) (kept new)) ⊎ means new (with_kept f (kept new))))

  -- a call after a front is decided, by the facts that are known: it is replied, or the facts are named that the plain machine's
  -- first lacking check asks for, and nothing changed
  abbrev pub DecidedBy : Front → Call → FactsState → Decision → S → S → Type 0
  DecidedBy f call facts (decision.Done said) old new = Replied f call said new
  DecidedBy f call facts (decision.Needs needs) old new = IsAsked f call facts needs × (new ≡ old)
