use Rattle.std.proofs.Common.{rules, refl, ◌≡◌, ◌<ℤ◌, pos, length, unsigned_abs, ap, sym, ◌∙◌, to_z, of_z, w64}
use Rattle.jiff_core.specs.DateTime.{civil_seconds}
use Rattle.ks_time.proofs.DateTimeLemmas.{no_civil_text, not_before_1970, civil_text_from, plain_text}
use Rattle.ks_time.proofs.civil.civil_moment.Goals as goal

pub returns-in_default-clause-none : goal.returns-in_default-clause-none
returns-in_default-clause-none c = λ same moment. no_civil_text c.args.text.now moment (c.in_default.ensures.none refl)

pub returns-then-second-lt0-clause-none : goal.returns-then-second-lt0-clause-none
returns-then-second-lt0-clause-none c = λ same moment is.
    let before : civil_seconds c.in-Some.time <ℤ pos 0 = search rules in
    not_before_1970 c.in-Some.time moment before (rw c.in-Some.ensures.some at is)

pub returns-else-second-lt0-clause-some : goal.returns-else-second-lt0-clause-some
returns-else-second-lt0-clause-some c =
    let long : length (plain_text c.in-Some.time) ≡ 19 = ap length (sym c.in-Some.ensures.some) ∙ c.told-text in
    let seconds : civil_seconds c.in-Some.time ≡ pos (unsigned_abs (to_z w64 (of_z w64 c.to_second-second.result))) = search rules in
    rw c.in-Some.ensures.some (civil_text_from c.in-Some.time _ seconds long)
