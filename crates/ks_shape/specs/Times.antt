-- The moment of a time text, from its digits.
-- Source: RFC 3339, 5.6, narrowed.
use Rattle.std.specs.Prelude.{ℕ, ◌+◌, ◌-◌, ◌*◌, Bool, ◌&&◌, nat_lt, if◌then◌else◌, List, ◌++◌, length, take, drop, slice_index, Option, Some, None, codes}
use Rattle.std.specs.Int.{is_in_range}
use Rattle.std.specs.Str.{bytes_eq}
use Rattle.ks_time.specs.Calendar.{Civil, days_in_month, moment_of}
use Rattle.ks_time.specs.TimeTexts.{clock_text, date_text, is_fraction}

-- the calendar has the date, and a clock shows the time
abbrev pub is_civil : Civil → Bool
is_civil c =
    is_in_range 1970 9999 c.year && (is_in_range 1 12 c.month && (is_in_range 1 (days_in_month c.year c.month) c.day
    && (nat_lt c.hour 24 && (nat_lt c.minute 60 && nat_lt c.second 60))))

-- the number of the two digits at a place
abbrev pub two_at : ℕ → List ℕ → ℕ
two_at i text = (slice_index text i - 48) * 10 + (slice_index text (i + 1) - 48)

-- the civil time in `YYYY-MM-DDTHH:MM:SS`
abbrev pub civil_in : List ℕ → Civil
civil_in text = record {
  year = two_at 0 text * 100 + two_at 2 text;
  month = two_at 5 text;
  day = two_at 8 text;
  hour = two_at 11 text;
  minute = two_at 14 text;
  second = two_at 17 text;
}

-- what stands between that and the last byte
abbrev pub fraction_in : List ℕ → List ℕ
fraction_in text = take (length text - 20) (drop 19 text)

-- the text is written as its digits are
abbrev pub is_spelled : Civil → List ℕ → List ℕ → Bool
is_spelled civil fraction text = bytes_eq text ((date_text civil ++ codes "T" ++ clock_text civil) ++ fraction ++ codes "Z")

abbrev pub is_time_text : List ℕ → Bool
is_time_text text = is_civil (civil_in text) && (is_fraction (fraction_in text) && is_spelled (civil_in text) (fraction_in text) text)

unfoldable pub time_of : List ℕ → Option ℕ
time_of text = if is_time_text text then Some (moment_of (civil_in text)) else None
