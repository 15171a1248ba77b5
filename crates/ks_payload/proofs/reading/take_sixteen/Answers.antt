use Rattle.std.proofs.Common.{refl}
use Rattle.ks_payload.proofs.CodeLemmas.{bytes_short, bytes_taken}
use Rattle.ks_payload.proofs.reading.take_sixteen.Goals as goal

pub returns-in_default : goal.returns-in_default
returns-in_default c = bytes_short 16 c.args.bytes.now c.in_default.ensures.cases

pub returns : goal.returns
returns c =
    let cut = c.in-Some.ensures.cases in
    bytes_taken 16 c.args.bytes.now c.in-Some.front.now c.in-Some.rest.now (λ k. (c.type_inv.bytes k).fits) (c.in-Some.ensures.variant.0 refl) cut.0 cut.1
