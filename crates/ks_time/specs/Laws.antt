-- What holds of all moments and their texts.
use Rattle.std.specs.Prelude.{◌≡◌, ◌≤◌, ℕ, List}
use Rattle.ks_time.specs.Calendar.{Civil, IsCivil, moment_of}
use Rattle.ks_time.specs.TimeTexts.{IsTimeText, IsWritten, time_text}

-- law: no two civil times have one moment
abbrev pub HasOneCivilTime : Type 0
HasOneCivilTime = (a b : Civil) → IsCivil a → IsCivil b → moment_of a ≡ moment_of b → a ≡ b

-- law: so a moment has one written text
abbrev pub HasOneWrittenText : Type 0
HasOneWrittenText = (moment : ℕ) (s t : List ℕ) → IsWritten moment s → IsWritten moment t → s ≡ t

-- law: a text names one moment at most
abbrev pub HasOneMoment : Type 0
HasOneMoment = (text : List ℕ) (m n : ℕ) → IsTimeText text m → IsTimeText text n → m ≡ n

-- law: what is written names the moment that it was written for
abbrev pub IsReadBack : Type 0
IsReadBack = (moment : ℕ) (text : List ℕ) → IsWritten moment text → IsTimeText text moment

-- law: up to the last second of the year 9999, the text that is worked out is the one that is written
abbrev pub IsWorkedOut : Type 0
IsWorkedOut = (moment : ℕ) → moment ≤ 253_402_300_799 → IsWritten moment (time_text moment)
