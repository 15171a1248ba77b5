-- The calendar of the contracts and jiff's have the same days.
use Rattle.std.proofs.Common.{◌≡◌, ℕ, zero, suc, ◌+◌, ◌-◌, ◌≤◌, refl, ap, arith, pos}
use Rattle.jiff_core.specs.Calendar as jiff
use Rattle.jiff_core.proofs.SignedLemmas.{signed_arith}
use Rattle.jiff_core.proofs.CalendarLemmas.{day_count-epoch, day_count-next_year, day_count-day_of_year, days_from_civil-day_count}
use Rattle.ks_time.specs.Calendar.{days_in_month, days_of_years, days_of_months}

-- jiff counts years from another one
pub years_same : (n : ℕ) → jiff.day_count (pos (1970 + n)) 1 1 ≡ days_of_years n + 4_371_953
unfolding days_of_years
years_same zero = day_count-epoch
years_same (suc n) =
    let next = day_count-next_year (pos (1970 + n)) (pos (1970 + suc n)) (omega (arith, signed_arith)) (omega (arith, signed_arith)) in
    omega (arith, years_same n, next)

-- the months of a year are the same
months_same : (y n : ℕ) → jiff.days_of_months (pos y) n ≡ days_of_months y n
unfolding jiff.days_of_months days_of_months
months_same y zero = refl
months_same y (suc n) = ap (λ days. days + days_in_month y (suc n)) (months_same y n)

-- the days before a date from 1970 on
pub days_same : (y m d : ℕ) → 1970 ≤ y → 1 ≤ m → 1 ≤ d
    → jiff.days_from_civil (pos y) m d ≡ pos (days_of_years (y - 1970) + days_of_months y (m - 1) + (d - 1))
days_same y m d from_1970 month day =
    let back : 1970 + (y - 1970) ≡ y = omega arith in
    let years = rw back at (years_same (y - 1970)) in
    omega (arith, signed_arith, years, months_same y (m - 1), day_count-day_of_year (pos y) m d day, days_from_civil-day_count (pos y) m d)
