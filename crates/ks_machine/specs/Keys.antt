-- The keys that are held: rotation, and loading from the folder.
use Rattle.std.specs.Prelude.{ℕ, Bool, true, false, not, nat_lt, List, reverse, map}
use Rattle.ks_base.specs.declared.faults.KeysFault.TheVariants as keys
use Rattle.ks_base.specs.declared.key.Key.{Key}
use Rattle.ks_base.specs.declared.limits.TheConstants.{LAST_KEY_INDEX}
use Rattle.ks_base.specs.declared.receipt.Drawn.{Drawn}
use Rattle.ks_machine.specs.declared.body_out.BodyOut.{BodyOut}
use Rattle.ks_machine.specs.declared.body_out.BodyOut.TheVariants as body
use Rattle.ks_machine.specs.declared.call.FolderRead.{FolderRead}
use Rattle.ks_machine.specs.declared.call.FolderRead.TheVariants as folder
use Rattle.ks_machine.specs.declared.cause.Cause.{Cause}
use Rattle.ks_machine.specs.declared.cause.Cause.TheVariants as cause
use Rattle.ks_machine.specs.declared.change.Change.TheVariants as change
use Rattle.ks_machine.specs.Attempts.{Attempt, Go, Stop, ◌>>=◌, need}
use Rattle.ks_machine.specs.Outcomes.{Outcome, changes, key}
use Rattle.ks_ring.specs.Rings.{RingState, highest, load_of, rotate_of}
use Rattle.ks_machine.specs.States.{State}

-- the indices that are held, rising, and the one that seals
abbrev pub told_keys : RingState → BodyOut
told_keys ring = body.Keys (reverse (map (λ held. held.index) ring.held)) (highest ring.held)

-- the keys that are held are rotated
unfoldable pub rotate_keys : State → Drawn → Attempt Cause Outcome
rotate_keys S drawn = do
  _ ← need (not S.settings.folder) cause.KeyMode
  _ ← need (nat_lt (highest S.ring.held) LAST_KEY_INDEX) (cause.Keys keys.IndexEnd)
  Go (changes (change.Rotate (key drawn)) (told_keys (rotate_of S.ring (key drawn) S.settings.max_keys)))

-- the folder failed, or was not read
abbrev pub is_failed : FolderRead → Bool
is_failed (folder.Keys found) = false
is_failed folder.Unused = true
is_failed (folder.Fault keys.Failed) = true
is_failed (folder.Fault keys.NoKeys) = false
is_failed (folder.Fault (keys.BadKey index)) = false
is_failed (folder.Fault keys.TooMany) = false
is_failed (folder.Fault keys.AlreadySet) = false
is_failed (folder.Fault keys.IndexEnd) = false
is_failed (folder.Fault keys.Memory) = false

-- the keys that were read of the folder
abbrev pub keys_read : FolderRead → Attempt Cause (List (ℕ × Key))
keys_read (folder.Keys found) = Go found
keys_read (folder.Fault why) = Stop (cause.Keys why)
keys_read folder.Unused = Stop cause.KeyDir

-- the keys that are held are loaded of the folder
unfoldable pub load_keys : State → FolderRead → Attempt Cause Outcome
load_keys S read = do
  _ ← need S.settings.folder cause.KeyMode
  found ← keys_read read
  Go (changes (change.Load found) (told_keys (load_of S.ring found)))
