use Rattle.std.proofs.Common.{refl}
use Rattle.ks_payload.proofs.CodeLemmas.{bytes_taken, expiry_short, expiry_late, expiry_taken}
use Rattle.ks_payload.proofs.reading.take_expiry.Goals as goal

pub returns-in_default : goal.returns-in_default
returns-in_default c = expiry_short c.args.bytes.now c.in_default.ensures.cases

pub returns-then-expires-gt-LAST_SECOND : goal.returns-then-expires-gt-LAST_SECOND
returns-then-expires-gt-LAST_SECOND c =
    let cut = c.in-Some.ensures.cases in
    let taken = bytes_taken 8 c.args.bytes.now c.in-Some.field.now c.in-Some.rest.now (λ k. (c.type_inv.bytes k).fits) (c.in-Some.ensures.variant.0 refl) cut.0 cut.1 in
    expiry_late c.args.bytes.now c.in-Some.field.now c.in-Some.rest.now c.from_be_bytes-expires.result taken c.from_be_bytes-expires.ensures c.if-expires-gt-LAST_SECOND.true

pub returns : goal.returns
returns c =
    let cut = c.in-Some.ensures.cases in
    let taken = bytes_taken 8 c.args.bytes.now c.in-Some.field.now c.in-Some.rest.now (λ k. (c.type_inv.bytes k).fits) (c.in-Some.ensures.variant.0 refl) cut.0 cut.1 in
    expiry_taken c.args.bytes.now c.in-Some.field.now c.in-Some.rest.now c.from_be_bytes-expires.result taken c.from_be_bytes-expires.ensures c.if-expires-gt-LAST_SECOND.false
