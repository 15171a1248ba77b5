-- No time text has a moment past the last second of the year 9999.
use Rattle.std.proofs.Common.{◌≡◌, ℕ, zero, suc, ◌+◌, ◌-◌, ◌≤◌, List, arith, add-suc, add-zero}
use Rattle.ks_base.specs.declared.limits.TheConstants.{LAST_SECOND}
use Rattle.ks_time.specs.Calendar.{Civil, IsCivil, days_in_month, days_in_year, days_of_months, days_of_years, moment_of}
use Rattle.ks_time.specs.TimeTexts.{IsTimeText}
use Rattle.ks_time.proofs.WalkLemmas.{last_year, year_months}

-- more years have more days, and so have more months
years_rise : (n more : ℕ) → days_of_years n ≤ days_of_years (n + more)
unfolding days_of_years
years_rise n zero = rw add-zero (omega arith)
years_rise n (suc more) = rw add-suc (omega (arith, years_rise n more))

months_rise : (year n more : ℕ) → days_of_months year n ≤ days_of_months year (n + more)
unfolding days_of_months
months_rise year n zero = rw add-zero (omega arith)
months_rise year n (suc more) = rw add-suc (omega (arith, months_rise year n more))

-- the days of a year up to one of its dates
days_in : (year n day : ℕ) → n ≤ 11 → day ≤ days_in_month year (suc n) → days_of_months year n + day ≤ days_in_year year
unfolding days_of_months
days_in year n day short is =
    let whole : suc n + (11 - n) ≡ 12 = omega arith in
    let rest = rw whole at (months_rise year (suc n) (11 - n)) in
    omega (arith, rest, is, year_months year)

-- the days of all years up to one of them
years_in : (n : ℕ) → n ≤ 8_029 → days_of_years n + days_in_year (1970 + n) ≤ 2_932_897
unfolding days_of_years
years_in n short =
    let whole : suc n + (8_029 - n) ≡ 8_030 = omega arith in
    let rest = rw whole at (years_rise (suc n) (8_029 - n)) in
    omega (arith, rest, last_year)

last_second : (c : Civil) → IsCivil c → moment_of c ≤ LAST_SECOND
last_second c is =
    let year_back : 1970 + (c.year - 1970) ≡ c.year = omega (arith, is.year) in
    let month_back : suc (c.month - 1) ≡ c.month = omega (arith, is.month) in
    let years = rw year_back at (years_in (c.year - 1970) (omega (arith, is.year))) in
    let months = days_in c.year (c.month - 1) c.day (omega (arith, is.month)) (rw month_back is.day.1) in
    omega (arith, years, months, is.day.0, is.hour, is.minute, is.second)

pub last_moment : (text : List ℕ) (moment : ℕ) → IsTimeText text moment → moment ≤ LAST_SECOND
last_moment text moment is = rw is.2.named (last_second is.2.civil is.2.is_civil)
