-- A text has a moment exactly where it is a time text of that moment.
use Rattle.std.proofs.Common.{◌≡◌, ℕ, ◌+◌, ◌-◌, ◌*◌, ◌/◌, ◌%◌, ◌≤◌, Bool, true, false, List, ◌++◌, length, take, Some, None, refl, sym, ap, ◌∙◌, arith, length-append, append_assoc}
use Rattle.std.proofs.Math.Seq.{take-append_seam}
use Rattle.std.proofs.lemmas.Bool.{and_from, and_parts, ltb-true, lt-ltb}
use Rattle.std.proofs.lemmas.Bool.Decides.{nat_tests}
use Rattle.std.proofs.lemmas.Slice.Eq.{bytes_eq-Decides}
use Rattle.std.specs.Prelude.{Option, Err, Ok, nat_lt, nat_le, if◌then◌else◌, codes}
use Rattle.std.specs.Int.{IsInRange, is_in_range}
use Rattle.ks_base.specs.Results.{found}
use Rattle.ks_time.specs.Calendar.{Civil, IsCivil, days_in_month, moment_of}
use Rattle.ks_time.specs.TimeTexts.{IsTimeText, clock_text, date_text, is_fraction}
use Rattle.ks_shape.specs.declared.misfit.Misfit.TheVariants.{Kind}
use Rattle.ks_shape.specs.Times.{civil_in, fraction_in, is_civil, is_spelled, is_time_text, time_of}

pub in_range_from : (low high n : ℕ) → is_in_range low high n ≡ true → IsInRange low high n
in_range_from low high n e =
    let parts = and_parts (nat_le low n) (nat_le n high) e in
    let above = parts.0 in
    let below = parts.1 in
    (grind (arith, nat_tests), grind (arith, nat_tests))

in_range_true : (low high n : ℕ) → IsInRange low high n → is_in_range low high n ≡ true
in_range_true low high n h =
    let above : low ≤ n = h.0 in
    let below : n ≤ high = h.1 in
    and_from (nat_le low n) (nat_le n high) (grind (arith, nat_tests)) (grind (arith, nat_tests))

is_civil_from : (c : Civil) → is_civil c ≡ true → IsCivil c
is_civil_from c e =
    let year = and_parts (is_in_range 1970 9999 c.year) _ e in
    let month = and_parts (is_in_range 1 12 c.month) _ year.1 in
    let day = and_parts (is_in_range 1 (days_in_month c.year c.month) c.day) _ month.1 in
    let hour = and_parts (nat_lt c.hour 24) _ day.1 in
    let minute = and_parts (nat_lt c.minute 60) (nat_lt c.second 60) hour.1 in
    record {
      year = in_range_from _ _ _ year.0;
      month = in_range_from _ _ _ month.0;
      day = in_range_from _ _ _ day.0;
      hour = ltb-true _ _ hour.0;
      minute = ltb-true _ _ minute.0;
      second = ltb-true _ _ minute.1;
    }

is_civil_true : (c : Civil) → IsCivil c → is_civil c ≡ true
is_civil_true c h =
    and_from (is_in_range 1970 9999 c.year) _ (in_range_true 1970 9999 c.year h.year)
    (and_from (is_in_range 1 12 c.month) _ (in_range_true 1 12 c.month h.month)
    (and_from (is_in_range 1 (days_in_month c.year c.month) c.day) _ (in_range_true 1 (days_in_month c.year c.month) c.day h.day)
    (and_from (nat_lt c.hour 24) _ (lt-ltb c.hour 24 h.hour)
    (and_from (nat_lt c.minute 60) (nat_lt c.second 60) (lt-ltb c.minute 60 h.minute) (lt-ltb c.second 60 h.second)))))

-- the two digits of a number that has no more
digits_back : (n : ℕ) → (48 + n / 10 - 48) * 10 + (48 + n % 10 - 48) ≡ n
digits_back n = omega arith

year_back : (n : ℕ) → ((48 + n / 100 / 10 - 48) * 10 + (48 + n / 100 % 10 - 48)) * 100 + ((48 + n % 100 / 10 - 48) * 10 + (48 + n % 100 % 10 - 48)) ≡ n
year_back n = omega arith

same_civil : (y y' mo mo' d d' h h' mi mi' s s' : ℕ) → y ≡ y' → mo ≡ mo' → d ≡ d' → h ≡ h' → mi ≡ mi' → s ≡ s'
    → (let a : Civil = record { year = y; month = mo; day = d; hour = h; minute = mi; second = s } in
    let b : Civil = record { year = y'; month = mo'; day = d'; hour = h'; minute = mi'; second = s' } in a ≡ b)
same_civil y y' mo mo' d d' h h' mi mi' s s' ey emo ed eh emi es = rw (ey, emo, ed, eh, emi, es) refl

-- a civil time is read back from its text
civil_back : (c : Civil) (rest : List ℕ) → civil_in ((date_text c ++ codes "T" ++ clock_text c) ++ rest) ≡ c
civil_back c rest =
    same_civil _ _ _ _ _ _ _ _ _ _ _ _ (year_back c.year) (digits_back c.month) (digits_back c.day) (digits_back c.hour) (digits_back c.minute) (digits_back c.second)

fraction_back : (c : Civil) (fraction : List ℕ) → fraction_in ((date_text c ++ codes "T" ++ clock_text c) ++ (fraction ++ codes "Z")) ≡ fraction
fraction_back c fraction =
    let long : length (fraction ++ codes "Z") ≡ length fraction + 1 = length-append fraction (codes "Z") in
    let left : length ((date_text c ++ codes "T" ++ clock_text c) ++ (fraction ++ codes "Z")) - 20 ≡ length fraction = omega (arith, long) in
    ap (λ n. take n (fraction ++ codes "Z")) left ∙ take-append_seam fraction (codes "Z")

whole_text : (c : Civil) (fraction : List ℕ) → (date_text c ++ codes "T" ++ clock_text c) ++ fraction ++ codes "Z" ≡ (date_text c ++ codes "T" ++ clock_text c) ++ (fraction ++ codes "Z")
whole_text c fraction = append_assoc (date_text c ++ codes "T" ++ clock_text c) fraction (codes "Z")

spelled_time : (c : Civil) (fraction text : List ℕ) → IsCivil c → is_fraction fraction ≡ true
    → text ≡ (date_text c ++ codes "T" ++ clock_text c) ++ fraction ++ codes "Z" → (is_time_text text ≡ true) × (civil_in text ≡ c)
spelled_time c fraction text h f e =
    let text' : List ℕ = (date_text c ++ codes "T" ++ clock_text c) ++ (fraction ++ codes "Z") in
    let same : text ≡ text' = e ∙ whole_text c fraction in
    let civil : civil_in text ≡ c = ap (λ t. civil_in t) same ∙ civil_back c (fraction ++ codes "Z") in
    let part : fraction_in text ≡ fraction = ap (λ t. fraction_in t) same ∙ fraction_back c fraction in
    let one : is_civil (civil_in text) ≡ true = ap (λ x. is_civil x) civil ∙ is_civil_true c h in
    let two : is_fraction (fraction_in text) ≡ true = ap (λ x. is_fraction x) part ∙ f in
    let three : is_spelled (civil_in text) (fraction_in text) text ≡ true =
    ap (λ x. is_spelled x (fraction_in text) text) civil ∙ (ap (λ x. is_spelled c x text) part
    ∙ (bytes_eq-Decides text ((date_text c ++ codes "T" ++ clock_text c) ++ fraction ++ codes "Z")).1 e) in
    (and_from (is_civil (civil_in text)) _ one (and_from (is_fraction (fraction_in text)) _ two three), civil)

-- a time text has its moment
pub time_from : (text : List ℕ) (moment : ℕ) → IsTimeText text moment → time_of text ≡ Some moment
unfolding time_of
time_from text moment h =
    let c = h.2.civil in
    let whole : text ≡ (date_text c ++ codes "T" ++ clock_text c) ++ h.1 ++ codes "Z" =
    h.4 ∙ ap (λ civil. civil ++ h.1 ++ codes "Z") h.2.spelled in
    let both = spelled_time c h.1 text h.2.is_civil h.3 whole in
    rw both.0 (ap Some (ap (λ x. moment_of x) both.1 ∙ sym h.2.named))

some_if : (b : Bool) (m n : ℕ) → (if b then Some m else None) ≡ Some n → (b ≡ true) × (m ≡ n)
some_if true m n e = (refl, cc)
some_if false m n e = absurd cc

-- what has a moment is a time text
pub time_is : (text : List ℕ) (moment : ℕ) → time_of text ≡ Some moment → IsTimeText text moment
unfolding time_of
time_is text moment e =
    let both = some_if (is_time_text text) (moment_of (civil_in text)) moment e in
    let parts = and_parts (is_civil (civil_in text)) _ both.0 in
    let rest = and_parts (is_fraction (fraction_in text)) _ parts.1 in
    let c : Civil = civil_in text in (
      date_text c ++ codes "T" ++ clock_text c,
      fraction_in text,
      record { civil = c; is_civil = is_civil_from c parts.0; spelled = refl; named = sym both.1 },
      rest.0,
      (bytes_eq-Decides text ((date_text c ++ codes "T" ++ clock_text c) ++ fraction_in text ++ codes "Z")).0 rest.1,
    )

none_or : (o : Option ℕ) → ((moment : ℕ) → ¬ (o ≡ Some moment)) → o ≡ None
none_or None h = refl
none_or (Some moment) h = absurd (h moment refl)

pub read_moment : (text : List ℕ) (moment : ℕ) → IsTimeText text moment → Ok moment ≡ found (time_of text) Kind
read_moment text moment h = rw (time_from text moment h) refl

pub no_moment : (text : List ℕ) → ((moment : ℕ) → ¬ IsTimeText text moment) → Err Kind ≡ found (time_of text) Kind
no_moment text h = rw (none_or (time_of text) (λ moment e. h moment (time_is text moment e))) refl
