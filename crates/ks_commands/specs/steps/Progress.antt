-- How far a check has come, whatever the pieces in which its input came.
use Rattle.std.specs.Prelude.{◌≡◌, ℕ, ◌+◌, ◌*◌, ◌<◌, List, [], ◌++◌, length, Option, Some, None, Result, Ok, Err, OnOk}
use Rattle.ks_base.specs.declared.limits.TheConstants.{CHECK_LINE_BYTES}
use Rattle.ks_outside.specs.Streams.{Begins}
use Rattle.ks_outside.specs.declared.failed.Failed.{Failed}
use Rattle.ks_commands.specs.declared.fault.Fault.{Fault}
use Rattle.ks_commands.specs.declared.fault.Fault.TheVariants as fault
use Rattle.ks_commands.specs.declared.checker.CheckPlace.{CheckPlace}
use Rattle.ks_commands.specs.declared.checker.Checker.{Checker}
pub use Rattle.ks_commands.specs.Ending.{IsCutShort, ReadsToLine}
use Rattle.ks_commands.specs.Lines.{AreWhole, line_feeds}
use Rattle.ks_commands.specs.Check.{Step, End, Checked, onto, bad_line, step_of, check_from, check_of, Whole, BadLine}

-- What a line was to write and to leave behind it, and what came of it. A fault leaves the answers as they were.
abbrev pub Takes : Option Step → ℕ → List ℕ → CheckPlace → List ℕ → Result (Unit {0}) Fault → Type 0
Takes expected lines before new after (Ok done) = (output : List ℕ) × (expected ≡ Some (record { output = output; place = new })) × (after ≡ before ++ output)
Takes expected lines before new after (Err (fault.BadLine n)) = (expected ≡ None) × (n ≡ lines + 1) × (after ≡ before)
Takes expected lines before new after (Err fault.Memory) = after ≡ before
Takes expected lines before new after (Err other) = ⊥

-- Bytes of a line were kept behind those that had begun it; or the line is too long.
abbrev pub Holds : List ℕ → Checker → Checker → Result (Unit {0}) Fault → Type 0
Holds bytes old new (Ok done) = (new.line.items ≡ old.line.items ++ bytes) × (new.place ≡ old.place) × (new.answers.items ≡ old.answers.items)
Holds bytes old new (Err (fault.BadLine n)) = (CHECK_LINE_BYTES < length (old.line.items ++ bytes)) × (n ≡ old.place.lines + 1) × (new.answers.items ≡ old.answers.items)
Holds bytes old new (Err fault.Memory) = new.answers.items ≡ old.answers.items
Holds bytes old new (Err other) = ⊥

-- The same for a line that began in earlier pieces and ends here; behind it none has begun.
abbrev pub EndsLine : List ℕ → Checker → Checker → Result (Unit {0}) Fault → Type 0
EndsLine last old new result =
    Takes (step_of old.place (old.line.items ++ last)) old.place.lines old.answers.items new.place new.answers.items result × OnOk result (new.line.items ≡ [])

-- How many bytes a checker has read, at most: a line and its line feed have at most 1,101.
abbrev pub bytes_read : Checker → ℕ
bytes_read checker = 1101 * checker.place.lines + length checker.line.items

abbrev pub IsAtStart : Checker → Type 0
IsAtStart checker = (checker.place ≡ record { lines = 0; key = None; moment = 0 }) × (checker.line.items ≡ []) × (checker.answers.items ≡ [])

-- these bytes were read: as many whole lines as the checker has answered, and those of the line that has begun
pub record HasLines (checker : Checker) (read : List ℕ) : Type 0 where
  pub lines : List ℕ
  pub read_is : read ≡ lines ++ checker.line.items
  pub whole : AreWhole lines
  pub counted : line_feeds lines ≡ checker.place.lines

-- `whole more` is what is to be written where `more` follows the bytes in hand: those of the line that has begun, and `rest`
pub record Stands (whole : List ℕ → Checked) (rest : List ℕ) (checker : Checker) (written : Option (List ℕ)) (before : List ℕ) : Type 0 where
  pub so_far : List ℕ
  pub written_is : written ≡ Some (before ++ so_far)
  pub same : (more : List ℕ) → whole more ≡ onto (so_far ++ checker.answers.items) (check_from checker.place (checker.line.items ++ (rest ++ more)))

-- a bad line was met: what was written and the answers in hand are all that is to be written
pub record StandsAtBadLine (whole : List ℕ → Checked) (n : ℕ) (checker : Checker) (written : Option (List ℕ)) (before : List ℕ) : Type 0 where
  pub so_far : List ℕ
  pub written_is : written ≡ Some (before ++ so_far)
  pub same : (more : List ℕ) → whole more ≡ onto (so_far ++ checker.answers.items) (bad_line n)

-- the input has ended, and only the answers in hand are still to be written
pub record StandsAtEnd (total : Checked) (end : End) (checker : Checker) (written : Option (List ℕ)) (before : List ℕ) : Type 0 where
  pub so_far : List ℕ
  pub written_is : written ≡ Some (before ++ so_far)
  pub same : total ≡ record { output = so_far ++ checker.answers.items; end = end }

-- what was written and the answers in hand are the front of what was to be written
pub record HoldsFront (whole : List ℕ → Checked) (checker : Checker) (written : Option (List ℕ)) (before : List ℕ) : Type 0 where
  pub so_far : List ℕ
  pub written_is : written ≡ Some (before ++ so_far)
  pub front : (more : List ℕ) → Begins (so_far ++ checker.answers.items) (whole more).output

-- what was written is the front of what was to be
pub record WroteFront (whole : List ℕ → Checked) (written : Option (List ℕ)) (before : List ℕ) : Type 0 where
  pub so_far : List ℕ
  pub written_is : written ≡ Some (before ++ so_far)
  pub front : (more : List ℕ) → Begins so_far (whole more).output

-- how a call leaves a check that stood: it stands before `rest`, or it stopped
abbrev pub Moves : (List ℕ → Checked) → List ℕ → Result (Unit {0}) Fault → Checker → Option (List ℕ) → List ℕ → Type 0
Moves whole rest (Ok done) checker written before = Stands whole rest checker written before
Moves whole rest (Err (fault.BadLine n)) checker written before = StandsAtBadLine whole n checker written before
Moves whole rest (Err fault.Write) checker written before = WroteFront whole written before
Moves whole rest (Err fault.Memory) checker written before = HoldsFront whole checker written before
Moves whole rest (Err other) checker written before = ⊥

abbrev pub Flushes : (List ℕ → Checked) → List ℕ → Result (Unit {0}) Failed → Checker → Option (List ℕ) → List ℕ → Type 0
Flushes whole rest (Ok done) checker written before = Stands whole rest checker written before
Flushes whole rest (Err failed) checker written before = WroteFront whole written before

abbrev pub Finishes : (List ℕ → Checked) → Result (Unit {0}) Fault → Checker → Option (List ℕ) → List ℕ → Type 0
Finishes whole (Ok done) checker written before = StandsAtEnd (whole []) Whole checker written before
Finishes whole (Err (fault.BadLine n)) checker written before = StandsAtEnd (whole []) (BadLine n) checker written before
Finishes whole (Err fault.Memory) checker written before = HoldsFront whole checker written before
Finishes whole (Err other) checker written before = ⊥

-- what a write of the answers in hand leaves
abbrev pub WritesOut : Checker → Result (Unit {0}) Failed → Checker → Option (List ℕ) → List ℕ → Type 0
WritesOut old (Ok done) new written before =
    (written ≡ Some (before ++ old.answers.items)) × (new.answers.items ≡ []) × (new.line.items ≡ old.line.items) × (new.place ≡ old.place)
WritesOut old (Err failed) new written before = (part : List ℕ) × Begins part old.answers.items × (written ≡ Some (before ++ part))

-- a part of the input was read, and the check stands behind it
pub record IsReading (input : List ℕ) (left : Option (List ℕ)) (checker : Checker) (written : Option (List ℕ)) (before : List ℕ) : Type 0 where
  pub read : List ℕ
  pub rest : List ℕ
  pub input_is : input ≡ read ++ rest
  pub left_is : left ≡ Some rest
  pub stands : Stands (λ more. check_of (read ++ more)) [] checker written before
  pub lines : HasLines checker read

-- the reading stopped with answers in hand, which are behind what was written the front of the output for the bytes read
pub record StoppedReading (input : List ℕ) (left : Option (List ℕ)) (checker : Checker) (written : Option (List ℕ)) (before : List ℕ) : Type 0 where
  pub read : List ℕ
  pub rest : List ℕ
  pub input_is : input ≡ read ++ rest
  pub left_is : left ≡ Some rest
  pub holds : HoldsFront (λ more. check_of (read ++ more)) checker written before

-- the reading came to a bad line; whatever followed the bytes that were read, no more would be written
pub record CameToBadLine (input : List ℕ) (n : ℕ) (left : Option (List ℕ)) (checker : Checker) (written : Option (List ℕ)) (before : List ℕ) : Type 0 where
  pub read : List ℕ
  pub rest : List ℕ
  pub input_is : input ≡ read ++ rest
  pub left_is : left ≡ Some rest
  pub here : StandsAtEnd (check_of read) (BadLine n) checker written before
  pub near : ReadsToLine n input left
  pub there : StandsAtEnd (check_of input) (BadLine n) checker written before

abbrev pub ReadsAll : List ℕ → Option (List ℕ) → Result (Unit {0}) Fault → Checker → Option (List ℕ) → List ℕ → Type 0
ReadsAll input left (Ok done) checker written before = (left ≡ Some []) × StandsAtEnd (check_of input) Whole checker written before
ReadsAll input left (Err (fault.BadLine n)) checker written before = CameToBadLine input n left checker written before
ReadsAll input left (Err fault.Read) checker written before = StoppedReading input left checker written before
ReadsAll input left (Err fault.Memory) checker written before = StoppedReading input left checker written before
ReadsAll input left (Err fault.Write) checker written before = IsCutShort input before left written
ReadsAll input left (Err fault.Usage) checker written before = ⊥
ReadsAll input left (Err fault.BadPassword) checker written before = ⊥
ReadsAll input left (Err fault.Folder) checker written before = ⊥
ReadsAll input left (Err (fault.Keys reason)) checker written before = ⊥
ReadsAll input left (Err fault.Desk) checker written before = ⊥
ReadsAll input left (Err (fault.Opening reason)) checker written before = ⊥
ReadsAll input left (Err (fault.State reason)) checker written before = ⊥
ReadsAll input left (Err (fault.Keeper why)) checker written before = ⊥
ReadsAll input left (Err fault.OtherOpening) checker written before = ⊥
ReadsAll input left (Err (fault.BadEntry n)) checker written before = ⊥
