use Rattle.std.proofs.Common.{◌≡◌, false, None, Ok, sym, ap, ◌∙◌}
use Rattle.std.proofs.lemmas.Slice.Eq.{bytes_eq-Decides}
use Rattle.jiff_fmt.specs.Temporal.{parse_datetime, date_parts, time_parts, datetime_view}
use Rattle.jiff_fmt.proofs.RoundTrip.{parse_datetime-datetime_text}
use Rattle.ks_time.proofs.DateTimeLemmas.{printed_again, plain_text}
use Rattle.ks_time.proofs.civil.printed_so.Goals as goal

pub returns-in_default-clause-none : goal.returns-in_default-clause-none
returns-in_default-clause-none c = λ same time spelled.
    let read : parse_datetime c.args.text.now ≡ Ok (date_parts time.date, time_parts time.time) = rw spelled (parse_datetime-datetime_text time) in
    let answer = rw c.in_default.is at (c.parse_datetime.ensures ∙ read) in
    cc

pub returns-else-eq-clause-none : goal.returns-else-eq-clause-none
returns-else-eq-clause-none c = λ same time spelled.
    let parsed : parse_datetime (plain_text time) ≡ Ok (date_parts c.in-Ok.time.date, time_parts c.in-Ok.time.time) =
    ap (λ t. parse_datetime t) (sym spelled) ∙ sym c.parse_datetime.ensures ∙ ap (λ r. datetime_view r) c.in-Ok.is in
    let text = printed_again c.in-Ok.time time parsed in
    let lower : c.new.result.lowercase ≡ false = ap (λ o. o.0) c.new.ensures in
    let mark : c.new.result.separator ≡ 84 = ap (λ o. o.1) c.new.ensures in
    let places : c.new.result.precision ≡ None = ap (λ o. o.2) c.new.ensures in
    let printed = rw (lower, mark, places) at c.datetime_text-printed.ensures in
    let equal : c.as_bytes.result.now ≡ c.args.text.now =
    c.as_bytes.ensures.value ∙ c.as_str.ensures.value ∙ printed ∙ text ∙ sym spelled in
    let holds = (bytes_eq-Decides c.as_bytes.result.now c.args.text.now).1 equal in
    cc
