-- What is written down of the changes: the live revocations, and the last change itself.
use Rattle.std.specs.Prelude.{ℕ, ◌+◌, ◌==◌, ◌||◌, ◌&&◌, nat_le, Bool, List, ◌++◌, length, Option, Some}
use Rattle.ks_base.specs.declared.events.EventRow.{EventRow}
use Rattle.ks_base.specs.declared.events.Revoke.{Revoke}
use Rattle.ks_base.specs.declared.limits.TheConstants.{EVENTS}
use Rattle.ks_machine.specs.declared.change.Change.{Change}
use Rattle.ks_machine.specs.declared.change.Entry.{Entry}
use Rattle.ks_machine.specs.Changes.{events_at}
use Rattle.ks_revoke.specs.Histories.{Kept}

-- | what contracts see of a log
pub record Logged : Type 0 where
  -- the live revocations
  pub revoked : Kept
  -- the last change, if there was one
  pub newest : Option Entry
  -- how many changes were made
  pub made : ℕ

-- | with so many more revocations no more are live than these, nor than may ever be
abbrev pub is_room : ℕ → List EventRow → ℕ → Bool
is_room most live more = (more == 0) || (nat_le (length live + more) most && nat_le (length live + more) EVENTS)

-- | the log with one change more, and with what it revoked
abbrev pub written : List Revoke → Change → List EventRow → ℕ → Logged → Logged
written things change marks room log = record {
  revoked = record log.revoked { events = log.revoked.events ++ events_at log.revoked.high things; marks = marks; room = room };
  newest = Some (record { number = log.made; moment = log.revoked.high; change = change });
  made = log.made + 1;
}
