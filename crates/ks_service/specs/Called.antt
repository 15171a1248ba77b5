-- What came of a call through a pass.
use Rattle.std.specs.Prelude.{◌≡◌, ℕ, ◌<◌, ◌≤◌, ◌⊎◌, Bool, true, false, List, [], ◌∷◌, ◌++◌, length, min, Option, Some, None}
use Rattle.ks_machine.specs.declared.call.Call.{Call}
use Rattle.ks_machine.specs.declared.cause.Cause.{Cause}
use Rattle.ks_machine.specs.declared.cause.Cause.TheVariants as cause
use Rattle.ks_machine.specs.declared.change.Change.{Change}
use Rattle.ks_machine.specs.declared.reply.Reply.{Reply}
use Rattle.ks_machine.specs.declared.reply.Reply.TheVariants as reply
use Rattle.ks_machine.specs.Attempts.{everything}
use Rattle.ks_machine.specs.Fronts.{Front, IsSound, ◌⊑◌, after, answer, change_of, cut, replay}
use Rattle.ks_machine.specs.Moment.{last_moment, moment_of}
use Rattle.ks_machine.specs.Steps.{step}
use Rattle.ks_machine.specs.Told.{IsTellable}
use Rattle.ks_service.specs.declared.answer.Answer.{Answer}
use Rattle.ks_state.specs.declared.decides.Kept.TheVariants as keeping
use Rattle.ks_state.specs.Decides.{with_kept}
use Rattle.ks_turn.specs.Passes.{Passed}

-- a reply for want of memory

abbrev pub is_memory_cause : Cause → Bool
is_memory_cause (cause.Shape fault) = false
is_memory_cause cause.NoToken = false
is_memory_cause (cause.CallerToken why) = false
is_memory_cause cause.Credentials = false
is_memory_cause (cause.ScopeRefused why) = false
is_memory_cause (cause.Rule action) = false
is_memory_cause (cause.Trust fault) = false
is_memory_cause (cause.Tree fault) = false
is_memory_cause cause.Prohibited = false
is_memory_cause (cause.Immutable field) = false
is_memory_cause cause.TrustToken = false
is_memory_cause cause.KeyMode = false
is_memory_cause (cause.Absent kind id) = false
is_memory_cause (cause.SubjectToken why) = false
is_memory_cause cause.NoRoute = false
is_memory_cause (cause.NoMethod methods) = false
is_memory_cause (cause.NameTaken id) = false
is_memory_cause (cause.Keys fault) = false
is_memory_cause (cause.Full kind) = false
is_memory_cause (cause.IdTaken id) = false
is_memory_cause cause.Random = false
is_memory_cause cause.KeyDir = false
is_memory_cause cause.Memory = true

abbrev pub is_memory : Reply → Bool
is_memory (reply.Ok told) = false
is_memory (reply.Refused why) = is_memory_cause why

-- events

-- | a reading of the clock, up to the last that counts
abbrev pub capped : ℕ → ℕ
capped reading = min reading last_moment

-- | the change that the plain machine makes by a call after a front, if any
unfoldable pub made_by : Front → Call → Option Change
made_by f call = change_of (step everything (replay f) call)

-- | the number of the change, if there is one
abbrev pub numbered : ℕ → Option Change → List ℕ
numbered number None = []
numbered number (Some change) = number ∷ []

-- | the call was decided after the front `at`
pub record IsDecided {F : Type 0} (old new : Passed) (call : Call) (at : Front) (said : Answer F) : Type 0 where
  -- the reply is the plain machine's
  pub reply : said.reply ≡ answer at call
  -- the front afterwards is the plain machine's, of which more may be kept
  pub seen : new.seen ≡ with_kept (after at call) new.seen.kept
  -- the change, if there is one, is the pass's own
  pub own : new.own ≡ old.own ++ numbered said.changes (made_by at call)
  -- the moment is not before the reading
  pub late : capped call.reading ≤ said.moment

-- | there was no memory, and nothing changed after the front `at`
pub record IsUndecided (old new : Passed) (at : Front) : Type 0 where
  pub seen : new.seen ≡ at
  pub own : new.own ≡ old.own

abbrev pub IsDecidedUnless : {F : Type 0} → Bool → Passed → Passed → Call → Front → Answer F → Type 0
IsDecidedUnless false old new call at said = IsDecided old new call at said
IsDecidedUnless true old new call at said = IsUndecided old new at

-- | the moment of an event after a front, with no other event between; where there was no memory it may also be the highest before
abbrev pub IsNextUnless : Bool → Front → Call → ℕ → Type 0
IsNextUnless false seen call moment = moment ≡ moment_of seen.high call.reading
IsNextUnless true seen call moment = (moment ≡ moment_of seen.high call.reading) ⊎ (moment ≡ seen.high)

-- what came of a call through a pass, which then was the new one
pub record Called {F : Type 0} (old new : Passed) (call : Call) (said : Answer F) : Type 0 where
  pub turn : new.turn ≡ old.turn
  -- the answer names a place in the front that the pass then has: it cuts off a front that goes on from what the pass had seen
  pub within : said.changes ≤ length new.seen.changes
  pub goes_on : old.seen ⊑ cut new.seen said.changes said.moment
  pub is_cut : cut new.seen said.changes said.moment ⊑ new.seen
  pub sound : IsSound new.seen
  -- its moment is the highest
  pub moment : new.seen.high ≡ said.moment
  -- there the call was decided, unless there was no memory
  pub decided : IsDecidedUnless (is_memory said.reply) old new call (cut new.seen said.changes said.moment) said
  -- each moment in the reply has a text
  pub tellable : IsTellable said.reply
  -- the pass raised the highest moment to the reading, or not at all
  pub top : (new.top ≡ old.top) ⊎ (new.top ≡ capped call.reading)
  pub weight : new.weight ≡ old.weight
  -- with all the weight no other pass is there, so that nothing came between
  pub alone : old.weight ≡ 1000000 → (said.changes ≡ length old.seen.changes) × IsNextUnless (is_memory said.reply) old.seen call said.moment
  -- all changes are kept where the answer says so
  pub kept : said.kept ≡ keeping.Yes → new.seen.kept ≡ length new.seen.changes
  -- where the highest moment stayed below the reading, no event decided the call, and it says that there was no memory to keep any
  pub unkept : said.moment < capped call.reading → said.kept ≡ keeping.Memory
