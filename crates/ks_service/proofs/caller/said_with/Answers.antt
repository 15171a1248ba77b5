use Rattle.std.proofs.Common.{Some, sym, ap, subst, ◌∙◌, option_copied}
use Rattle.ks_payload.specs.Payloads.{IsPayload}
use Rattle.ks_service.specs.Callers.{Says}
use Rattle.ks_service.proofs.CallerLemmas.{said_apart, said_by}
use Rattle.ks_service.proofs.caller.said_with.Goals as goal

pub returns-in-Ok-Some : goal.returns-in-Ok-Some
returns-in-Ok-Some c =
    let payload = c.in-Ok-Some.payload in
    let read = rw c.in-Ok-Some.is at c.read.ensures.some in
    let spelled = rw c.in-Ok-Some.field-0-is at read in
    said_apart (Says c.args.text.now) payload c.held_apart.result c.held_apart.ensures
    (said_by c.args.facts.now c.args.held.now c.args.text.now c.in-Some-Yes.field-0-0 c.in-Some-Yes.plain payload
    (sym c.opened.ensures ∙ ap option_copied c.in-Some-Yes.is ∙ ap Some c.in-Some-Yes.field-0-is) (subst (λ plain. IsPayload plain payload) c.as_slice.ensures spelled))
