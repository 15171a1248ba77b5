-- The civil time that is worked out for a moment has that moment.
use Rattle.std.proofs.Common.{◌≡◌, ℕ, zero, suc, ◌+◌, ◌-◌, ◌/◌, ◌%◌, ◌<◌, ◌≤◌, ◌++◌, codes, refl, arith}
use Rattle.std.proofs.lemmas.Bool.Decides.{leb_tells}
use mathlib.Core.Logic.{⊎_elim}
use Rattle.jiff_core.proofs.CalendarLemmas.{day_count-end}
use Rattle.ks_time.specs.Calendar.{Civil, IsCivil, Walk, civil_at, civil_from, days_in_month, days_in_year, days_of_months, days_of_years, moment_of, walk_months, walk_years}
use Rattle.ks_time.specs.TimeTexts.{IsWritten, clock_text, date_text, time_text}
use Rattle.ks_time.proofs.CalendarLemmas.{years_same}

-- the years that a walk finds, of a number of days before the year 10000
pub record IsYear (total : ℕ) (found : Walk) : Type 0 where
  pub year : found.whole ≤ 8_029
  pub day : found.days < days_in_year (1970 + found.whole)
  pub sum : days_of_years found.whole + found.days ≡ total

-- 1 January 10000
pub last_year : days_of_years 8_030 ≡ 2_932_897
last_year = omega (arith, years_same 8_030, day_count-end)

no_years : days_of_years 0 ≡ 0
unfolding days_of_years
no_years = refl

years_found : (more n days total : ℕ) → n + more ≡ 8_029 → days_of_years n + days ≡ total
    → ((k : ℕ) → k ≡ 8_030 → total < days_of_years k) → IsYear total (walk_years more n days)
unfolding walk_years days_of_years
years_found zero n days total reach sum before = record {
  year = omega (arith, reach);
  day = omega (arith, sum, before (suc n) (omega (arith, reach)));
  sum = sum;
}
years_found (suc more) n days total reach sum before = ⊎_elim
    (λ h. rw (h.0, walk_years) (record { year = omega (arith, reach); day = omega (arith, h.1); sum = sum }))
    (λ h. rw (h.0, walk_years) (years_found more (suc n) (days - days_in_year (1970 + n)) total (omega (arith, reach)) (omega (arith, sum, h.1)) before))
    (leb_tells (suc days) (days_in_year (1970 + n)))

-- the months that a walk finds, of a number of days of one year
pub record IsMonth (year total : ℕ) (found : Walk) : Type 0 where
  pub month : found.whole ≤ 11
  pub day : found.days < days_in_month year (suc found.whole)
  pub sum : days_of_months year found.whole + found.days ≡ total

pub year_months : (year : ℕ) → days_of_months year 12 ≡ days_in_year year
unfolding days_of_months
year_months year = grind arith

no_months : (year : ℕ) → days_of_months year 0 ≡ 0
unfolding days_of_months
no_months year = refl

months_found : (year more n days total : ℕ) → n + more ≡ 11 → days_of_months year n + days ≡ total
    → ((k : ℕ) → k ≡ 12 → total < days_of_months year k) → IsMonth year total (walk_months year more n days)
unfolding walk_months days_of_months
months_found year zero n days total reach sum before = record {
  month = omega (arith, reach);
  day = omega (arith, sum, before (suc n) (omega (arith, reach)));
  sum = sum;
}
months_found year (suc more) n days total reach sum before = ⊎_elim
    (λ h. rw (h.0, walk_months) (record { month = omega (arith, reach); day = omega (arith, h.1); sum = sum }))
    (λ h. rw (h.0, walk_months) (months_found year more (suc n) (days - days_in_month year (suc n)) total (omega (arith, reach)) (omega (arith, sum, h.1)) before))
    (leb_tells (suc days) (days_in_month year (suc n)))

-- the parts of a moment
civil_is : (moment : ℕ) (years months : Walk) → IsYear (moment / 86_400) years → IsMonth (1970 + years.whole) years.days months
    → IsCivil (civil_from years months (moment % 86_400))
civil_is moment years months year month = record {
  year = (omega arith, omega (arith, year.year));
  month = (omega arith, omega (arith, month.month));
  day = (omega arith, omega (arith, month.day));
  hour = omega arith;
  minute = omega arith;
  second = omega arith;
}

moment_is : (moment : ℕ) (years months : Walk) → IsYear (moment / 86_400) years → IsMonth (1970 + years.whole) years.days months
    → moment ≡ moment_of (civil_from years months (moment % 86_400))
moment_is moment years months year month =
    let from_1970 : 1970 + years.whole - 1970 ≡ years.whole = omega arith in
    let from_1 : suc months.whole - 1 ≡ months.whole = omega arith in
    rw (from_1970, from_1) (omega (arith, year.sum, month.sum))

-- what the walks find for a moment
years_at : (moment : ℕ) → moment ≤ 253_402_300_799 → IsYear (moment / 86_400) (walk_years 8_029 0 (moment / 86_400))
years_at moment last =
    years_found 8_029 0 (moment / 86_400) (moment / 86_400) refl (omega (arith, no_years))
    (λ k e. rw (e, last_year) (omega (arith, last)))

months_at : (moment : ℕ) (years : Walk) → IsYear (moment / 86_400) years
    → IsMonth (1970 + years.whole) years.days (walk_months (1970 + years.whole) 11 0 years.days)
months_at moment years year =
    months_found (1970 + years.whole) 11 0 years.days years.days refl (omega (arith, no_months (1970 + years.whole)))
    (λ k e. rw (e, year_months (1970 + years.whole)) year.day)

civil_text_at : (moment : ℕ) → moment ≤ 253_402_300_799 → IsCivil (civil_at moment) × (moment ≡ moment_of (civil_at moment))
unfolding civil_at
civil_text_at moment last =
    let year = years_at moment last in
    let month = months_at moment _ year in
    (civil_is moment _ _ year month, moment_is moment _ _ year month)

pub worked_out : (moment : ℕ) → moment ≤ 253_402_300_799 → IsWritten moment (time_text moment)
unfolding time_text
worked_out moment last =
    let c : Civil = civil_at moment in
    let is = civil_text_at moment last in
    (date_text c ++ codes "T" ++ clock_text c, record { civil = c; is_civil = is.0; spelled = refl; named = is.1 }, refl)
