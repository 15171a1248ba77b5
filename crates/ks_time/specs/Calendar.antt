-- Civil times of the Gregorian calendar in UTC, in the years 1970 to 9999, and the moments that they name.
-- Source: the Gregorian calendar.
use Rattle.std.specs.Prelude.{ℕ, zero, suc, ◌+◌, ◌-◌, ◌*◌, ◌/◌, ◌%◌, ◌<◌, Bool, true, false, not, ◌&&◌, ◌||◌, ◌==◌, nat_lt, if◌then◌else◌}
use Rattle.std.specs.Int.{IsInRange}

-- | a date of the Gregorian calendar from 1970 to 9999, with the time of a clock
pub record Civil : Type 0 where
  pub year : ℕ
  pub month : ℕ
  pub day : ℕ
  pub hour : ℕ
  pub minute : ℕ
  pub second : ℕ

-- every fourth year is a leap year, but no hundredth, but every four hundredth
abbrev pub is_leap_year : ℕ → Bool
is_leap_year y = (y % 4 == 0) && (not (y % 100 == 0) || (y % 400 == 0))

abbrev pub days_in_year : ℕ → ℕ
days_in_year y = if is_leap_year y then 366 else 365

-- thirty days have September, April, June and November
abbrev pub days_in_month : ℕ → ℕ → ℕ
days_in_month y m =
    if m == 2 then (if is_leap_year y then 29 else 28)
    else (if (m == 4) || (m == 6) || (m == 9) || (m == 11) then 30 else 31)

-- | the calendar has this date, and a clock shows this time; no minute has a leap second
pub record IsCivil (c : Civil) : Type 0 where
  pub year : IsInRange 1970 9999 c.year
  pub month : IsInRange 1 12 c.month
  pub day : IsInRange 1 (days_in_month c.year c.month) c.day
  pub hour : c.hour < 24
  pub minute : c.minute < 60
  pub second : c.second < 60

-- the days of the first n years from 1970 on
unfoldable pub days_of_years : ℕ → ℕ
days_of_years zero = 0
days_of_years (suc n) = days_of_years n + days_in_year (1970 + n)

-- the days of the first n months of a year
unfoldable pub days_of_months : ℕ → ℕ → ℕ
days_of_months y zero = 0
days_of_months y (suc n) = days_of_months y n + days_in_month y (suc n)

-- the whole days from 1 January 1970 to a date
abbrev pub days_before : Civil → ℕ
days_before c = days_of_years (c.year - 1970) + days_of_months c.year (c.month - 1) + (c.day - 1)

-- | the seconds from 1970-01-01T00:00:00Z to a civil time
abbrev pub moment_of : Civil → ℕ
moment_of c = days_before c * 86_400 + c.hour * 3_600 + c.minute * 60 + c.second

-- ---- the civil time at a moment

-- a number of whole years or months, and the days that are left of the next one
pub record Walk : Type 0 where
  pub whole : ℕ
  pub days : ℕ

-- the whole years from the n-th from 1970 on that these days hold; it looks at this many years
unfoldable pub walk_years : ℕ → ℕ → ℕ → Walk
walk_years zero n days = record { whole = n; days = days }
walk_years (suc more) n days =
    elim (nat_lt days (days_in_year (1970 + n))) [
      | true ↦ record { whole = n; days = days }
      | false ↦ walk_years more (suc n) (days - days_in_year (1970 + n))
    ]

-- the whole months from the n-th of a year on that these days hold; it looks at this many months
unfoldable pub walk_months : ℕ → ℕ → ℕ → ℕ → Walk
walk_months year zero n days = record { whole = n; days = days }
walk_months year (suc more) n days =
    elim (nat_lt days (days_in_month year (suc n))) [
      | true ↦ record { whole = n; days = days }
      | false ↦ walk_months year more (suc n) (days - days_in_month year (suc n))
    ]

-- these whole years and months, the days that are over of the next month, and this second of the day
abbrev pub civil_from : Walk → Walk → ℕ → Civil
civil_from years months second = record {
  year = 1970 + years.whole;
  month = suc months.whole;
  day = suc months.days;
  hour = second / 3_600;
  minute = second % 3_600 / 60;
  second = second % 3_600 % 60;
}

-- | the civil time at a moment, for moments before the year 10000
unfoldable pub civil_at : ℕ → Civil
civil_at moment =
    let years : Walk = walk_years 8_029 0 (moment / 86_400) in
    civil_from years (walk_months (1970 + years.whole) 11 0 years.days) (moment % 86_400)
