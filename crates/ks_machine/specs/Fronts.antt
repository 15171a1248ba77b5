-- Fronts: an opening, the changes that were made since, the highest moment, and how many changes are kept. The journal of all that happened is a front, and
-- what a caller saw of it is an earlier one.
use Rattle.std.specs.Prelude.{◌≡◌, ℕ, ◌≤◌, List, [], ◌∷◌, ◌++◌, length, min, take, Option, Some, None}
use Rattle.std.specs.List.{AllByRecursion}
use Rattle.ks_machine.specs.declared.call.Call.{Call}
use Rattle.ks_machine.specs.declared.cause.Cause.TheVariants as cause
use Rattle.ks_machine.specs.declared.change.Change.{Change}
use Rattle.ks_machine.specs.declared.change.Entry.{Entry}
use Rattle.ks_machine.specs.declared.reply.Reply.{Reply}
use Rattle.ks_machine.specs.declared.reply.Reply.TheVariants as reply
use Rattle.ks_machine.specs.Moment.{moment_of}
use Rattle.ks_machine.specs.Openings.{PlainOpening}
use Rattle.ks_machine.specs.Attempts.{everything}
use Rattle.ks_machine.specs.Changes.{apply}
use Rattle.ks_machine.specs.Opened.{opened_state}
use Rattle.ks_machine.specs.States.{State}
use Rattle.ks_machine.specs.Steps.{Stepped, Replies, Needs, step}

-- an opening, its changes, the highest moment and how many changes are kept
pub record Front : Type 0 where
  pub opening : PlainOpening
  pub changes : List Entry
  pub high : ℕ
  -- how many of the changes are kept where a stop cannot undo them
  pub kept : ℕ

-- before any change
abbrev pub first_front : PlainOpening → Front
first_front opening = record { opening = opening; changes = []; high = 0; kept = 0 }

-- no change is at a moment above the highest, and no more changes are kept than there are
pub record IsSound (f : Front) : Type 0 where
  pub moments : AllByRecursion (λ entry. entry.moment ≤ f.high) f.changes
  pub kept : f.kept ≤ length f.changes

-- the state after changes, each at its moment
unfoldable pub replayed : State → List Entry → State
replayed S [] = S
replayed S (entry ∷ entries) = replayed (apply S entry.moment entry.change) entries

-- | the state of a front
unfoldable pub replay : Front → State
replay front = record (replayed (opened_state front.opening) front.changes) { high = front.high }

-- | the first changes, this as the highest moment, and of the kept changes those among the first
abbrev pub cut : Front → ℕ → ℕ → Front
cut front count high = record front { changes = take count front.changes; high = high; kept = min front.kept count }

-- one front goes on from another: from the same opening, with more changes, none of which is at a moment below the highest of the
-- other, and with no fewer kept
infix 4 ◌⊑◌
-- one front goes on from another
pub record ◌⊑◌ (f g : Front) : Type 0 where
  pub opening : f.opening ≡ g.opening
  pub later : List Entry
  pub changes : g.changes ≡ f.changes ++ later
  pub high : f.high ≤ g.high
  pub moments : AllByRecursion (λ entry. f.high ≤ entry.moment) later
  pub kept : f.kept ≤ g.kept

-- | the front after an event at this moment, with the change that it made, if any, which is not kept yet
abbrev pub then : Front → ℕ → Option Change → Front
then front moment None = record front { high = moment }
then front moment (Some what) = record front {
  changes = front.changes ++ record { number = length front.changes; moment = moment; change = what } ∷ [];
  high = moment;
}

abbrev pub reply_of : Stepped → Reply
reply_of (Replies told what) = told
reply_of (Needs lack) = reply.Refused cause.Memory

abbrev pub change_of : Stepped → Option Change
change_of (Replies told what) = what
change_of (Needs lack) = None

-- | the reply of the plain machine after a front, and the front after that
unfoldable pub answer : Front → Call → Reply
answer front call = reply_of (step everything (replay front) call)

unfoldable pub after : Front → Call → Front
after front call = then front (moment_of front.high call.reading) (change_of (step everything (replay front) call))
