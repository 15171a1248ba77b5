use Rattle.std.proofs.Common.{arith, refl, ◌∙◌, ap, ◌≡◌, length, [], ◌∷◌, ◌++◌, codes, append_assoc, encode_utf8}
use Rattle.ks_time.specs.TimeTexts.{IsWritten}
use Rattle.ks_time.proofs.DateTimeLemmas.{printed_from}
use Rattle.ks_time.proofs.TextLemmas.{same_written}
use Rattle.ks_time.proofs.WalkLemmas.{worked_out}
use Rattle.ks_time.proofs.writing.time_digits.Goals as goal

pub push-requires : goal.push-requires
unfolding lib.Utf8.encode
push-requires c =
    let printed = printed_from c.new.result c.precision.result c.new.ensures c.precision.ensures c.time_at-time.result c.args.moment c.datetime_text-text.result.bytes c.time_at-time.ensures c.datetime_text-text.ensures in
    let one : length (encode_utf8 90) ≡ 1 = refl in
    (omega arith, omega (arith, printed.long))

pub returns : goal.returns
returns c =
    let printed = printed_from c.new.result c.precision.result c.new.ensures c.precision.ensures c.time_at-time.result c.args.moment c.datetime_text-text.result.bytes c.time_at-time.ensures c.datetime_text-text.ensures in
    let text = c.push.ensures.ascii (omega arith) ∙ ap (λ s. s ++ 90 ∷ []) printed.spelled
    ∙ append_assoc printed.civil (codes ".000000") (90 ∷ []) in
    let written : IsWritten c.args.moment c.push.new.self.bytes = (printed.civil, printed.is_civil, text) in
    record {
      written = written;
      text = same_written c.args.moment _ _ written (worked_out c.args.moment c.requires);
    }
