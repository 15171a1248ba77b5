-- What one event does to a front, and what a cut at it is.
use Rattle.std.proofs.Common.{◌≡◌, ℕ, ◌+◌, ◌≤◌, List, [], ◌∷◌, length, take, min, Option, Some, None, true, refl, sym, ap, ◌∙◌, arith, append-nil, length-append}
use Rattle.std.proofs.Math.Seq.{take-append_seam}
use Rattle.ks_machine.specs.declared.call.Call.{Call}
use Rattle.ks_machine.specs.declared.cause.Cause.{Cause}
use Rattle.ks_machine.specs.declared.cause.Cause.TheVariants as cause
use Rattle.ks_machine.specs.declared.change.Change.{Change}
use Rattle.ks_machine.specs.declared.change.Entry.{Entry}
use Rattle.ks_machine.specs.declared.reply.Reply.{Reply}
use Rattle.ks_machine.specs.declared.reply.Reply.TheVariants as reply
use Rattle.ks_machine.specs.Attempts.{Attempt, Go, Stop, Lacks, everything}
use Rattle.ks_machine.specs.Fronts.{Front, IsSound, ◌⊑◌, after, answer, change_of, cut, replay, reply_of, then}
use Rattle.ks_machine.specs.Moment.{moment_of}
use Rattle.ks_machine.specs.Outcomes.{Outcome}
use Rattle.ks_machine.specs.Steps.{step, step_at, stepped}
use Rattle.ks_machine.proofs.FrontLemmas.{moment_twice}
use Rattle.ks_service.specs.Called.{is_memory, made_by}
use Rattle.ks_state.specs.Decides.{with_kept}

-- the front at the moment of a call, with this many changes kept
abbrev pub raised : Front → Call → ℕ → Front
raised f call kept = record f { high = moment_of f.high call.reading; kept = kept }

-- the plain machine's step does not look at the highest moment below the call's, nor at what is kept
step_raised : (f : Front) (call : Call) (kept : ℕ) → step everything (replay (raised f call kept)) call ≡ step everything (replay f) call
unfolding replay step_at
step_raised f call kept =
    ap (λ moment. step_at everything (replay (raised f call kept)) moment call) (moment_twice f.high call.reading)

pub answer_raised : (f : Front) (call : Call) (kept : ℕ) → answer (raised f call kept) call ≡ answer f call
unfolding answer
answer_raised f call kept = ap reply_of (step_raised f call kept)

pub made_raised : (f : Front) (call : Call) (kept : ℕ) → made_by (raised f call kept) call ≡ made_by f call
unfolding made_by
made_raised f call kept = ap change_of (step_raised f call kept)

-- nor at what is kept alone

pub answer_bare : (f : Front) (call : Call) → answer (record f { kept = 0 }) call ≡ answer f call
unfolding answer replay
answer_bare f call = refl

pub made_bare : (f : Front) (call : Call) → made_by (record f { kept = 0 }) call ≡ made_by f call
unfolding made_by replay
made_bare f call = refl

pub after_is : (f : Front) (call : Call) → after f call ≡ then f (moment_of f.high call.reading) (made_by f call)
unfolding after made_by
after_is f call = refl

-- a refusal makes no change
refused_changes_nothing : (said : Attempt Cause Outcome) (why : Cause) → reply_of (stepped said) ≡ reply.Refused why → change_of (stepped said) ≡ None
refused_changes_nothing (Go outcome) why refused = absurd (cc)
refused_changes_nothing (Stop e) why refused = refl
refused_changes_nothing (Lacks lack) why refused = refl

pub made_none : (f : Front) (call : Call) (why : Cause) → answer f call ≡ reply.Refused why → made_by f call ≡ None
unfolding answer made_by step_at
made_none f call why refused = refused_changes_nothing _ why refused

-- an event: a change or none at a moment, of which more may be kept
abbrev pub event : Front → ℕ → Option Change → ℕ → Front
event f moment change kept = with_kept (then f moment change) kept

then_kept : (f : Front) (high moment kept kept' : ℕ) (change : Option Change) → event (record f { high = high; kept = kept' }) moment change kept ≡ event f moment change kept
then_kept f high moment kept kept' None = refl
then_kept f high moment kept kept' (Some change) = refl

-- the plain machine's front after the cut is that after the front before
pub after_raised : (f : Front) (call : Call) (kept kept' : ℕ) → with_kept (after (raised f call kept') call) kept ≡ event f (moment_of f.high call.reading) (made_by f call) kept
after_raised f call kept kept' =
    let moment = moment_of f.high call.reading in
    ap (λ g. with_kept g kept) (after_is (raised f call kept') call)
    ∙ ap (λ m. event (raised f call kept') m (made_by (raised f call kept') call) kept) (moment_twice f.high call.reading)
    ∙ ap (λ change. event (raised f call kept') moment change kept) (made_raised f call kept')
    ∙ then_kept f moment moment kept kept' (made_by f call)

pub event_high : (f : Front) (moment kept : ℕ) (change : Option Change) → (event f moment change kept).high ≡ moment
event_high f moment kept None = refl
event_high f moment kept (Some change) = refl

pub event_kept : (f : Front) (moment kept : ℕ) (change : Option Change) → (event f moment change kept).kept ≡ kept
event_kept f moment kept None = refl
event_kept f moment kept (Some change) = refl

pub event_within : (f : Front) (moment kept : ℕ) (change : Option Change) → length f.changes ≤ length (event f moment change kept).changes
event_within f moment kept None = omega arith
event_within f moment kept (Some change) = omega (arith, length-append f.changes (record { number = length f.changes; moment = moment; change = change } ∷ []))

pub event_few : (f : Front) (moment kept : ℕ) (change : Option Change) → length (event f moment change kept).changes ≤ length f.changes + 1
event_few f moment kept None = omega arith
event_few f moment kept (Some change) = omega (arith, length-append f.changes (record { number = length f.changes; moment = moment; change = change } ∷ []))

pub event_goes_on : (f : Front) (moment kept : ℕ) (change : Option Change) → f.high ≤ moment → f.kept ≤ kept → f ⊑ event f moment change kept
event_goes_on f moment kept None high more = record { opening = refl; later = []; changes = sym (append-nil f.changes); high = high; moments = tt; kept = more }
event_goes_on f moment kept (Some change) high more =
    record { opening = refl; later = record { number = length f.changes; moment = moment; change = change } ∷ []; changes = refl; high = high; moments = (high, tt); kept = more }

-- the cut at the event
abbrev pub place : Front → ℕ → ℕ → Front
place f moment kept = record f { high = moment; kept = min kept (length f.changes) }

taken_whole : (xs : List Entry) → take (length xs) xs ≡ xs
taken_whole xs = ap (λ l. take (length xs) l) (sym (append-nil xs)) ∙ take-append_seam xs []

pub cut_event : (f : Front) (moment kept : ℕ) (change : Option Change) → cut (event f moment change kept) (length f.changes) moment ≡ place f moment kept
cut_event f moment kept None = ap (λ l. record f { changes = l; high = moment; kept = min kept (length f.changes) }) (taken_whole f.changes)
cut_event f moment kept (Some change) =
    ap (λ l. record f { changes = l; high = moment; kept = min kept (length f.changes) }) (take-append_seam f.changes (record { number = length f.changes; moment = moment; change = change } ∷ []))

pub place_goes_on : (f : Front) (moment kept : ℕ) → IsSound f → f.high ≤ moment → f.kept ≤ kept → f ⊑ place f moment kept
place_goes_on f moment kept sound high more = record {
  opening = refl;
  later = [];
  changes = sym (append-nil f.changes);
  high = high;
  moments = tt;
  kept = omega (arith, sound.kept, more);
}

pub place_comes_before : (f : Front) (moment kept : ℕ) (change : Option Change) → place f moment kept ⊑ event f moment change kept
place_comes_before f moment kept None = record { opening = refl; later = []; changes = sym (append-nil f.changes); high = omega arith; moments = tt; kept = omega arith }
place_comes_before f moment kept (Some change) = record {
  opening = refl;
  later = record { number = length f.changes; moment = moment; change = change } ∷ [];
  changes = refl;
  high = omega arith;
  moments = (omega arith, tt);
  kept = omega arith;
}

-- with no change the front afterwards is the cut
pub event_is_place : (f : Front) (moment kept : ℕ) (change : Option Change) → change ≡ None → IsSound (event f moment change kept) → event f moment change kept ≡ place f moment kept
event_is_place f moment kept None none sound =
    let same : kept ≡ min kept (length f.changes) = omega (arith, sound.kept) in
    ap (λ k. record f { high = moment; kept = k }) same
event_is_place f moment kept (Some change) none sound = absurd (cc)

-- replies for want of memory

pub memory_is : (said : Reply) → is_memory said ≡ true → said ≡ reply.Refused cause.Memory
memory_is (reply.Ok told) is = absurd (cc)
memory_is (reply.Refused (cause.Shape fault)) is = absurd (cc)
memory_is (reply.Refused cause.NoToken) is = absurd (cc)
memory_is (reply.Refused (cause.CallerToken why)) is = absurd (cc)
memory_is (reply.Refused cause.Credentials) is = absurd (cc)
memory_is (reply.Refused (cause.ScopeRefused why)) is = absurd (cc)
memory_is (reply.Refused (cause.Rule action)) is = absurd (cc)
memory_is (reply.Refused (cause.Trust fault)) is = absurd (cc)
memory_is (reply.Refused (cause.Tree fault)) is = absurd (cc)
memory_is (reply.Refused cause.Prohibited) is = absurd (cc)
memory_is (reply.Refused (cause.Immutable field)) is = absurd (cc)
memory_is (reply.Refused cause.TrustToken) is = absurd (cc)
memory_is (reply.Refused cause.KeyMode) is = absurd (cc)
memory_is (reply.Refused (cause.Absent kind id)) is = absurd (cc)
memory_is (reply.Refused (cause.SubjectToken why)) is = absurd (cc)
memory_is (reply.Refused cause.NoRoute) is = absurd (cc)
memory_is (reply.Refused (cause.NoMethod methods)) is = absurd (cc)
memory_is (reply.Refused (cause.NameTaken id)) is = absurd (cc)
memory_is (reply.Refused (cause.Keys fault)) is = absurd (cc)
memory_is (reply.Refused (cause.Full kind)) is = absurd (cc)
memory_is (reply.Refused (cause.IdTaken id)) is = absurd (cc)
memory_is (reply.Refused cause.Random) is = absurd (cc)
memory_is (reply.Refused cause.KeyDir) is = absurd (cc)
memory_is (reply.Refused cause.Memory) is = refl
