use Rattle.ks_payload.proofs.CodeLemmas.{no_number, number_below, number_above, number_within}
use Rattle.ks_payload.proofs.reading.take_number.Goals as goal
use Rattle.ks_payload.proofs.reading.take_number.Goals.{then-first-least-via-then-first-least, then-first-least-via-else-first-least+then-first-most}

pub returns-in_default : goal.returns-in_default
returns-in_default c = no_number c.args.least c.args.most c.args.bytes.now c.in_default.ensures.cases

pub returns-then-first-least : goal.returns-then-first-least
returns-then-first-least c =
    let bytes = c.in-Some.ensures.cases.0 in
    elim c.then-first-least.branch [
      | then-first-least-via-then-first-least w ↦ number_below c.args.least c.args.most c.in-Some.first.now c.in-Some.rest.now c.args.bytes.now bytes w.if-first-least.true
      | then-first-least-via-else-first-least+then-first-most w ↦ number_above c.args.least c.args.most c.in-Some.first.now c.in-Some.rest.now c.args.bytes.now bytes w.if-first-most.true
    ]

pub returns : goal.returns
returns c = number_within c.args.least c.args.most c.in-Some.first.now c.in-Some.rest.now c.args.bytes.now c.in-Some.ensures.cases.0 c.if-first-least.false c.if-first-most.false
