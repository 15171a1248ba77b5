use Rattle.std.proofs.Common.{Result, Err, ℕ, ap, sym, subst, ◌∙◌}
use Rattle.ks_auth.specs.declared.opening.Halt.{Halt}
use Rattle.ks_machine.specs.Attempts.{Attempt}
use Rattle.ks_machine.specs.Validity.{Valid}
use Rattle.ks_machine.specs.declared.why.Why.{Why}
use Rattle.ks_payload.specs.declared.payload.Payload.{Payload}
use Rattle.ks_auth.specs.Answers.{IsVerdict}
use Rattle.ks_auth.specs.Facts.{told}
use Rattle.ks_auth.specs.Lines.{IsHeld, token_held}
use Rattle.ks_auth.proofs.RangeLemmas.{found_in_range}
use Rattle.ks_auth.proofs.LineLemmas.{held_stops, held_lacks, held_goes}
use Rattle.ks_auth.proofs.TimeLemmas.{asked_in_time, held_in_time}
use Rattle.ks_auth.proofs.validity.validate.Goals as goal

pub judge-requires-clause-time : goal.judge-requires-clause-time
judge-requires-clause-time c =
    let P : Result (Payload × ℕ) Halt → Type 0 =
    IsHeld (token_held (told c.args.facts.now) c.args.tables.now.ring.now.held c.args.tables.now.settings.now.life c.args.moment c.args.late c.args.text.now) in
    let held = subst P c.in-Ok.is c.held.ensures.lines in
    asked_in_time c.args.tables.now.revoked.now.high c.args.moment c.in-Ok.issued c.args.tables.now.revoked.now.life c.args.tables.now.settings.now.life
    c.requires.moment c.requires.life
    (held_in_time (told c.args.facts.now) c.args.tables.now.ring.now.held c.args.tables.now.settings.now.life c.args.moment c.args.late c.args.text.now _ held.1)

pub returns-in-Ok-clause-verdict : goal.returns-in-Ok-clause-verdict
returns-in-Ok-clause-verdict c S tells =
    let P : Result (Payload × ℕ) Halt → Type 0 =
    IsHeld (token_held (told c.args.facts.now) c.args.tables.now.ring.now.held c.args.tables.now.settings.now.life c.args.moment c.args.late c.args.text.now) in
    let held = subst P c.in-Ok.is c.held.ensures.lines in
    let Q : Attempt Why Valid → Type 0 = λ lines. IsVerdict lines c.judge.result in
    subst Q (sym (held_goes (told c.args.facts.now) c.args.tables.now S c.args.moment c.args.late c.args.text.now _ tells held.1)) (c.judge.ensures.verdict S.events tells.events)

pub returns-in-Err-Refused-clause-verdict : goal.returns-in-Err-Refused-clause-verdict
returns-in-Err-Refused-clause-verdict c =
    let P : Result (Payload × ℕ) Halt → Type 0 =
    IsHeld (token_held (told c.args.facts.now) c.args.tables.now.ring.now.held c.args.tables.now.settings.now.life c.args.moment c.args.late c.args.text.now) in
    rw c.in-Err-Refused.why-is
    (λ S tells. held_stops (told c.args.facts.now) c.args.tables.now S c.args.moment c.args.late c.args.text.now c.in-Err-Refused.why tells
    (subst P (c.in-Err-Refused.is ∙ ap Err c.in-Err-Refused.field-0-is) c.held.ensures.lines))

pub returns-in-Err-Needs-clause-verdict : goal.returns-in-Err-Needs-clause-verdict
returns-in-Err-Needs-clause-verdict c S tells =
    let P : Result (Payload × ℕ) Halt → Type 0 =
    IsHeld (token_held (told c.args.facts.now) c.args.tables.now.ring.now.held c.args.tables.now.settings.now.life c.args.moment c.args.late c.args.text.now) in
    let lacks = subst P (c.in-Err-Needs.is ∙ ap Err c.in-Err-Needs.field-0-is) c.held.ensures.lines in
    (lacks.0, held_lacks (told c.args.facts.now) c.args.tables.now S c.args.moment c.args.late c.args.text.now lacks.0 tells lacks.1)

pub judge-requires-clause-range : goal.judge-requires-clause-range
judge-requires-clause-range c = found_in_range c.held.result c.in-Ok.payload c.in-Ok.issued c.in-Ok.is c.held.ensures.range

pub returns-in-Ok-clause-user : goal.returns-in-Ok-clause-user
returns-in-Ok-clause-user c = c.judge.ensures.user
