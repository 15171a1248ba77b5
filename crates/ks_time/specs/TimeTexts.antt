-- The texts of moments, as the Identity API v3 writes them: `YYYY-MM-DDTHH:MM:SS.ffffffZ`.
-- Source: Identity API v3; RFC 3339, 5.6, narrowed.
use Rattle.std.specs.Prelude.{◌≡◌, ℕ, ◌+◌, ◌/◌, ◌%◌, Bool, true, ◌&&◌, ◌==◌, IsTrue, List, [], ◌∷◌, ◌++◌, length, codes}
use Rattle.std.specs.Int.{is_in_range}
use Rattle.std.specs.Char.{is_ascii_digit}
use Rattle.std.specs.List.{list_all}
use Rattle.ks_time.specs.Calendar.{Civil, IsCivil, civil_at, moment_of}

-- a number below 100 in two decimal digits
abbrev pub two_digits : ℕ → List ℕ
two_digits n = (48 + n / 10) ∷ (48 + n % 10) ∷ []

-- a number below 10,000 in four
abbrev pub four_digits : ℕ → List ℕ
four_digits n = two_digits (n / 100) ++ two_digits (n % 100)

-- `YYYY-MM-DD`
abbrev pub date_text : Civil → List ℕ
date_text c = four_digits c.year ++ codes "-" ++ two_digits c.month ++ codes "-" ++ two_digits c.day

-- `HH:MM:SS`
abbrev pub clock_text : Civil → List ℕ
clock_text c = two_digits c.hour ++ codes ":" ++ two_digits c.minute ++ codes ":" ++ two_digits c.second

-- a civil time is `YYYY-MM-DDTHH:MM:SS`, and this is its moment
pub record IsCivilText (text : List ℕ) (moment : ℕ) : Type 0 where
  pub civil : Civil
  pub is_civil : IsCivil civil
  pub spelled : text ≡ date_text civil ++ codes "T" ++ clock_text civil
  pub named : moment ≡ moment_of civil

-- nothing, or a point and one to six decimal digits
abbrev pub is_fraction : List ℕ → Bool
is_fraction [] = true
is_fraction (point ∷ digits) = (point == 46) && is_in_range 1 6 (length digits) && list_all is_ascii_digit digits

-- the one text that is written for a moment, with `.000000Z`
abbrev pub IsWritten : ℕ → List ℕ → Type 0
IsWritten moment text = (civil : List ℕ) × IsCivilText civil moment × (text ≡ civil ++ codes ".000000Z")

-- that text, worked out; moments before the year 10000 have one
unfoldable pub time_text : ℕ → List ℕ
time_text moment =
    let civil : Civil = civil_at moment in (date_text civil ++ codes "T" ++ clock_text civil) ++ codes ".000000Z"

-- a text that names a moment, to the second: its fraction is left out
abbrev pub IsTimeText : List ℕ → ℕ → Type 0
IsTimeText text moment =
    (civil : List ℕ) × (fraction : List ℕ) × IsCivilText civil moment × IsTrue (is_fraction fraction)
    × (text ≡ civil ++ fraction ++ codes "Z")
