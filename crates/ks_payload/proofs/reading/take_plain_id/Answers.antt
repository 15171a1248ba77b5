use Rattle.std.proofs.Common.{sym, ◌∙◌}
use Rattle.ks_payload.proofs.CodeLemmas.{not_id, plain_short, plain_none, plain_taken}
use Rattle.ks_payload.proofs.reading.take_plain_id.Goals as goal

pub returns-in_default : goal.returns-in_default
returns-in_default c = plain_short c.args.len c.args.bytes.now c.in_default.ensures.cases

pub returns-then-is_hex_id : goal.returns-then-is_hex_id
returns-then-is_hex_id c =
    let cut = c.in-Some.ensures.cases in
    plain_none c.args.len c.args.bytes.now c.in-Some.text.now cut.0 cut.1 (λ is plain. cc)

pub returns-in_default-read : goal.returns-in_default-read
returns-in_default-read c =
    let cut = c.in-Some.ensures.cases in
    let said = c.read.ensures in
    plain_none c.args.len c.args.bytes.now c.in-Some.text.now cut.0 cut.1
    (λ is plain. not_id c.in-Some.text.now c.read.result c.in_default-read.field-0 c.in_default-read.is said.empty said.too_long said.byte is)

pub returns : goal.returns
returns c =
    let cut = c.in-Some.ensures.cases in
    let read = c.in-Ok.ensures.ok in
    let taken = plain_taken c.args.len c.args.bytes.now c.in-Some.text.now c.in-Some.rest.now cut.0 cut.1 cut.2 read.1 (sym c.is_hex_id.ensures ∙ c.if-is_hex_id.false) in
    cc
