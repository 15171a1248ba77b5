-- A civil time and jiff's name one moment and have one text.
use Rattle.std.proofs.Common.{◌≡◌, ◌≢◌, [], ℕ, zero, suc, ◌≤◌, ◌≤ℤ◌, ◌<ℤ◌, false, Some, None, Result, Ok, Err, List, ◌++◌, length, codes, refl, sym, ap, ◌∙◌, arith, ℤ, pos, negsuc, ◌+ℤ◌, ◌*ℤ◌, unsigned_abs, ◌∷◌, ◌==◌}
use Rattle.std.proofs.lemmas.Int.{by_lt_z}
use Rattle.std.proofs.lemmas.Bool.Decides.{nat_tests}
use Rattle.jiff_core.specs.declared.civil.date.Date.{Date}
use Rattle.jiff_core.specs.declared.civil.datetime.DateTime.{DateTime}
use Rattle.jiff_core.specs.Date.{epoch_day}
use Rattle.jiff_core.specs.DateTime.{civil_seconds, civil_nanos}
use Rattle.jiff_core.proofs.SignedLemmas.{signed_arith}
use Rattle.jiff_core.proofs.CalendarLemmas.{day_count-epoch, day_count-lt_year, days_from_civil-day_count}
use Rattle.jiff_core.proofs.DateLemmas.{civil, epoch_day_injective}
use Rattle.jiff_core.proofs.DateTimeLemmas.{civil_nanos-civil_seconds, civil_nanos_injective, time_nanos_injective}
use Rattle.jiff_fmt.specs.Text.{datetime_text, year_text, pad2, places, fraction, fraction_part}
use Rattle.jiff_core.specs.declared.error.Error.{Error}
use Rattle.jiff_fmt.specs.Printer as printed
use Rattle.jiff_fmt.specs.Printer.{options}
use Rattle.jiff_fmt.specs.declared.temporal.printer.DateTimePrinter.{DateTimePrinter}
use Rattle.jiff_fmt.specs.Temporal.{DateParts, TimeParts, date_parts, time_parts, parse_datetime}
use Rattle.jiff_fmt.proofs.RoundTrip.{parse_datetime-datetime_text}
use Rattle.ks_time.specs.Calendar.{Civil, IsCivil, moment_of}
use Rattle.ks_time.specs.TimeTexts.{date_text, clock_text, IsCivilText}
use Rattle.ks_time.proofs.CalendarLemmas.{days_same}

-- what a calendar and a clock show, in the year y
abbrev pub civil_of : ℕ → DateTime → Civil
civil_of y dt = record {
  year = y;
  month = dt.date.month;
  day = dt.date.day;
  hour = dt.time.hour;
  minute = dt.time.minute;
  second = dt.time.second;
}

-- what jiff prints, with as few places of a fraction as it needs
abbrev pub plain_text : DateTime → List ℕ
plain_text dt = datetime_text false 84 None dt

-- a number of at least 0 is a natural number
not_negative : (z : ℤ) → pos 0 ≤ℤ z → (n : ℕ) × (z ≡ pos n)
not_negative (pos n) h = (n, refl)
not_negative (negsuc n) h = absurd (omega (arith, signed_arith))

-- a day with a number that is not negative is of 1970 or later
year_from_day : (d : Date) (n : ℕ) → epoch_day d ≡ pos n → (y : ℕ) × (d.year ≡ pos y) × (1970 ≤ y)
year_from_day d n e =
    by_lt_z d.year (pos 1970)
    (λ before. absurd (omega (arith, signed_arith, day_count-epoch, days_from_civil-day_count d.year d.month d.day, day_count-lt_year d.year d.month d.day (pos 1970) 1 1 (civil d) (omega arith) before)))
    (λ after.
    let year = not_negative d.year (omega (arith, signed_arith)) in
    (year.0, year.1, omega (arith, signed_arith, year.1)))

-- nor is a time with a moment of an earlier year
pub year_of : (dt : DateTime) (n : ℕ) → civil_seconds dt ≡ pos n → (y : ℕ) × (dt.date.year ≡ pos y) × (1970 ≤ y)
unfolding civil_seconds
year_of dt n e =
    let day = not_negative (epoch_day dt.date) (omega (arith, signed_arith, dt.time.hour_in, dt.time.minute_in, dt.time.second_in)) in
    year_from_day dt.date day.0 day.1

-- both calendars give one moment
pub seconds_same : (dt : DateTime) (y : ℕ) → dt.date.year ≡ pos y → 1970 ≤ y → civil_seconds dt ≡ pos (moment_of (civil_of y dt))
unfolding civil_seconds
seconds_same dt y year from_1970 =
    let days = days_same y dt.date.month dt.date.day from_1970 dt.date.month_in.0 dt.date.day_in.0 in
    rw (year, days) (omega (arith, signed_arith))

-- jiff's dates and times are the calendar's and the clock's
pub is_civil : (dt : DateTime) (y : ℕ) → dt.date.year ≡ pos y → 1970 ≤ y → IsCivil (civil_of y dt)
is_civil dt y year from_1970 = record {
  year = (from_1970, omega (arith, signed_arith));
  month = dt.date.month_in;
  day = rw year at dt.date.day_in;
  hour = dt.time.hour_in;
  minute = dt.time.minute_in;
  second = dt.time.second_in;
}

-- with no fraction of a second, jiff prints the civil time
plain_same : (dt : DateTime) (y : ℕ) → dt.date.year ≡ pos y → dt.time.subsec_nanosecond ≡ 0
    → plain_text dt ≡ date_text (civil_of y dt) ++ codes "T" ++ clock_text (civil_of y dt)
plain_same dt y year whole = rw (year, whole) refl

-- the same with six places of a fraction
places_same : (dt : DateTime) (y : ℕ) → dt.date.year ≡ pos y → dt.time.subsec_nanosecond ≡ 0
    → datetime_text false 84 (Some 6) dt ≡ date_text (civil_of y dt) ++ codes "T" ++ clock_text (civil_of y dt) ++ codes ".000000"
unfolding places
places_same dt y year whole = rw (year, whole) refl

-- a fraction that is written is not 0
no_fraction : (n : ℕ) → length (fraction_part None n) ≡ 0 → n ≡ 0
no_fraction zero none = refl
no_fraction (suc n) none =
    let some : (suc n == 0) ≡ false = grind (arith, nat_tests) in
    let point : fraction_part None (suc n) ≡ 46 ∷ fraction None (suc n) = rw some in
    absurd (omega (arith, ap length point))

-- 19 characters leave no room for a fraction
whole_from_length : (dt : DateTime) (y : ℕ) → dt.date.year ≡ pos y → length (plain_text dt) ≡ 19 → dt.time.subsec_nanosecond ≡ 0
whole_from_length dt y year long =
    let rest = rw year at long in
    no_fraction dt.time.subsec_nanosecond (omega (arith, rest))

-- the moment of 19 characters that jiff prints for a time from 1970 on
pub civil_text_from : (dt : DateTime) (n : ℕ) → civil_seconds dt ≡ pos n → length (plain_text dt) ≡ 19 → IsCivilText (plain_text dt) n
civil_text_from dt n e long =
    let year = year_of dt n e in record {
      civil = civil_of year.0 dt;
      is_civil = is_civil dt year.0 year.1 year.2;
      spelled = plain_same dt year.0 year.1 (whole_from_length dt year.0 year.1 long);
      named = cc (seconds_same dt year.0 year.1 year.2);
    }

-- jiff's civil time of the same name
abbrev pub datetime_of : (c : Civil) → IsCivil c → DateTime
datetime_of c is = record {
  date = record {
    year = pos c.year;
    month = c.month;
    day = c.day;
    year_in = omega (arith, signed_arith, is.year);
    month_in = is.month;
    day_in = is.day;
  };
  time = record {
    hour = c.hour;
    minute = c.minute;
    second = c.second;
    subsec_nanosecond = 0;
    hour_in = is.hour;
    minute_in = is.minute;
    second_in = is.second;
    subsec_in = omega arith;
  };
}

-- it has the same text and moment
pub plain_of_civil : (c : Civil) (is : IsCivil c) → plain_text (datetime_of c is) ≡ date_text c ++ codes "T" ++ clock_text c
plain_of_civil c is = plain_same (datetime_of c is) c.year refl refl

pub seconds_of_civil : (c : Civil) (is : IsCivil c) → civil_seconds (datetime_of c is) ≡ pos (moment_of c)
seconds_of_civil c is = seconds_same (datetime_of c is) c.year refl is.year.0

-- and in nanoseconds
nanos_of_civil : (c : Civil) (is : IsCivil c) → civil_nanos (datetime_of c is) ≡ pos (moment_of c) *ℤ pos 1_000_000_000 +ℤ pos 0
nanos_of_civil c is =
    civil_nanos-civil_seconds (datetime_of c is) ∙ ap (λ s. s *ℤ pos 1_000_000_000 +ℤ pos 0) (seconds_of_civil c is)

-- no two civil times have one moment
pub same_civil : (a b : Civil) → IsCivil a → IsCivil b → moment_of a ≡ moment_of b → a ≡ b
same_civil a b is is' same =
    let nanos : civil_nanos (datetime_of a is) ≡ civil_nanos (datetime_of b is') =
    nanos_of_civil a is ∙ ap (λ n. pos n *ℤ pos 1_000_000_000 +ℤ pos 0) same ∙ sym (nanos_of_civil b is') in
    let parts = civil_nanos_injective (datetime_of a is) (datetime_of b is') nanos in
    let date = epoch_day_injective (datetime_of a is).date (datetime_of b is').date parts.0 in
    let time = time_nanos_injective (datetime_of a is).time (datetime_of b is').time parts.1 in
    let year : a.year ≡ b.year = cc in
    λ i. record {
      year = year i;
      month = date.1 i;
      day = date.2 i;
      hour = time.0 i;
      minute = time.1 i;
      second = time.2 i;
    }

-- the civil time that a parser found
civil_in : Result (DateParts × TimeParts) Error → Civil
civil_in (Ok (date, time)) = record {
  year = unsigned_abs date.year;
  month = date.month;
  day = date.day;
  hour = time.hour;
  minute = time.minute;
  second = time.second;
}
civil_in (Err e) = record { year = 0; month = 0; day = 0; hour = 0; minute = 0; second = 0 }

-- a text names one moment
pub same_moment : (s : List ℕ) (m n : ℕ) → IsCivilText s m → IsCivilText s n → m ≡ n
unfolding civil_in
same_moment s m n a b =
    let plain : plain_text (datetime_of a.civil a.is_civil) ≡ plain_text (datetime_of b.civil b.is_civil) =
    plain_of_civil a.civil a.is_civil ∙ sym a.spelled ∙ b.spelled ∙ sym (plain_of_civil b.civil b.is_civil) in
    let read = sym (parse_datetime-datetime_text (datetime_of a.civil a.is_civil)) ∙ ap (λ t. parse_datetime t) plain
    ∙ parse_datetime-datetime_text (datetime_of b.civil b.is_civil) in
    let times : a.civil ≡ b.civil = ap civil_in read in
    a.named ∙ ap (λ c. moment_of c) times ∙ sym b.named

-- what jiff prints for what it parsed
text_of : Result (DateParts × TimeParts) Error → List ℕ
text_of (Ok (date, time)) =
    year_text date.year ++ 45 ∷ [] ++ pad2 date.month ++ 45 ∷ [] ++ pad2 date.day
    ++ 84 ∷ (pad2 time.hour ++ 58 ∷ pad2 time.minute ++ 58 ∷ pad2 time.second ++ fraction_part None time.subsec)
text_of (Err e) = []

-- so what a time's own text parses to prints as that text
pub printed_again : (a b : DateTime) → parse_datetime (plain_text b) ≡ Ok (date_parts a.date, time_parts a.time) → plain_text a ≡ plain_text b
unfolding text_of
printed_again a b parsed = ap text_of (sym parsed ∙ parse_datetime-datetime_text b)

-- what jiff prints for no time is no civil time
pub no_civil_text : (text : List ℕ) (moment : ℕ) → ((time : DateTime) → text ≢ plain_text time) → ¬ IsCivilText text moment
no_civil_text text moment none is =
    none (datetime_of is.civil is.is_civil) (is.spelled ∙ sym (plain_of_civil is.civil is.is_civil))

-- the year that a parser found
year_in : Result (DateParts × TimeParts) Error → ℤ
year_in (Ok (date, time)) = date.year
year_in (Err e) = pos 0

-- what jiff prints for a time before 1970 is none either
pub not_before_1970 : (dt : DateTime) (moment : ℕ) → civil_seconds dt <ℤ pos 0 → ¬ IsCivilText (plain_text dt) moment
unfolding year_in
not_before_1970 dt moment before is =
    let other = datetime_of is.civil is.is_civil in
    let plain : plain_text dt ≡ plain_text other = is.spelled ∙ sym (plain_of_civil is.civil is.is_civil) in
    let read = sym (parse_datetime-datetime_text dt) ∙ ap (λ t. parse_datetime t) plain ∙ parse_datetime-datetime_text other in
    let year : dt.date.year ≡ pos is.civil.year = ap year_in read in
    omega (arith, signed_arith, seconds_same dt is.civil.year year is.is_civil.year.0)

-- a civil time and its moment, with the places of a fraction
pub record IsPrinted (moment : ℕ) (text : List ℕ) : Type 0 where
  pub civil : List ℕ
  pub is_civil : IsCivilText civil moment
  pub spelled : text ≡ civil ++ codes ".000000"
  pub long : length text ≡ 26

six_places : (dt : DateTime) (moment : ℕ) → civil_nanos dt ≡ pos moment *ℤ pos 1_000_000_000
    → IsPrinted moment (datetime_text false 84 (Some 6) dt)
six_places dt moment e =
    let parts = civil_nanos-civil_seconds dt in
    let whole : dt.time.subsec_nanosecond ≡ 0 = omega (arith, signed_arith, dt.time.subsec_in) in
    let seconds : civil_seconds dt ≡ pos moment = omega (arith, signed_arith, dt.time.subsec_in) in
    let year = year_of dt moment seconds in
    let shown = civil_of year.0 dt in
    let text = places_same dt year.0 year.1 whole in
    record {
      civil = date_text shown ++ codes "T" ++ clock_text shown;
      is_civil = record { civil = shown; is_civil = is_civil dt year.0 year.1 year.2; spelled = refl; named = cc (seconds_same dt year.0 year.1 year.2) };
      spelled = text;
      long = ap length text;
    }

-- what a printer writes with six places, if it is else as it was made
pub printed_from : (made printer : DateTimePrinter) → options made ≡ (false, 84, None) → options printer ≡ (made.lowercase, made.separator, Some 6)
    → (dt : DateTime) (moment : ℕ) (text : List ℕ) → civil_nanos dt ≡ pos moment *ℤ pos 1_000_000_000 → text ≡ printed.datetime_text printer dt
    → IsPrinted moment text
printed_from made printer as-made as-set dt moment text e is =
    let lower : printer.lowercase ≡ false = ap (λ o. o.0) as-set ∙ ap (λ o. o.0) as-made in
    let mark : printer.separator ≡ 84 = ap (λ o. o.1) as-set ∙ ap (λ o. o.1) as-made in
    let six : printer.precision ≡ Some 6 = ap (λ o. o.2) as-set in
    let shown : text ≡ datetime_text false 84 (Some 6) dt = rw (lower, mark, six) at is in
    rw shown (six_places dt moment e)
