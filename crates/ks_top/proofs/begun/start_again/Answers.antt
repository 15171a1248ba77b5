use Rattle.std.proofs.Common.{◌≡◌, ◌∙◌, refl, ap}
use Rattle.std.proofs.lemmas.Bool.{false≢true}
use Rattle.std.proofs.lemmas.Result.{IfOk-weaker, MatchResult-weaker}
use Rattle.ks_entries.specs.declared.header.Header.{Header}
use Rattle.ks_policy.specs.Openings.{plain}
use Rattle.ks_top.specs.steps.Beginnings.{IsStart, StartsAgain, bad_opening, bad_state, of_other}
use Rattle.ks_top.proofs.StartLemmas.{starts_again}
use Rattle.ks_top.proofs.begun.start_again.Goals as goal

pub returns-then-not-is_of-clause-stops : goal.returns-then-not-is_of-clause-stops
returns-then-not-is_of-clause-stops c =
    of_other (λ header spelled same. false≢true (c.if-not-is_of.ensures.1
    (ap (λ (h : Header). h.opening) (c.headers_differ.ensures c.args.bytes.now c.in-Ok-Some.header header (rw c.in-Ok-Some.field-0-is at c.in-Ok-Some.ensures.some) spelled) ∙ same)))
    refl

pub returns-in-Err-opening_of-clause-stops : goal.returns-in-Err-opening_of-clause-stops
returns-in-Err-opening_of-clause-stops c =
    bad_opening c.in-Ok-Some.header c.in-Err-opening_of.fault (record { spelled = rw c.in-Ok-Some.field-0-is at c.in-Ok-Some.ensures.some; same = c.if-not-is_of.ensures.0 refl })
    c.in-Err-opening_of.ensures c.of_header.ensures

pub returns-clause-starts : goal.returns-clause-starts
returns-clause-starts c =
    IfOk-weaker c.start_with.result (λ start. IsStart start × (plain start.opening.value ≡ plain c.in-Ok.opening)) (StartsAgain c.args.text.now c.args.bytes.now)
    (λ start is. starts_again c.args.text.now c.args.bytes.now c.in-Ok-Some.header start (plain c.in-Ok.opening)
    (record { spelled = rw c.in-Ok-Some.field-0-is at c.in-Ok-Some.ensures.some; same = c.if-not-is_of.ensures.0 refl }) c.in-Ok.ensures is.0 is.1)
    c.start_with.ensures.starts

pub returns-clause-stops : goal.returns-clause-stops
returns-clause-stops c =
    MatchResult-weaker c.start_with.result c.start_with.ensures.stops (λ start told. told)
    (λ f refused. bad_state c.in-Ok-Some.header (plain c.in-Ok.opening)
    (record { spelled = rw c.in-Ok-Some.field-0-is at c.in-Ok-Some.ensures.some; same = c.if-not-is_of.ensures.0 refl }) c.in-Ok.ensures refused)
