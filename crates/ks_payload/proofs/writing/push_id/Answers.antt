use Rattle.std.proofs.Common.{sym, ◌∙◌}
use Rattle.ks_payload.proofs.FieldLemmas.{hex_pushed, plain_pushed}
use Rattle.ks_payload.proofs.writing.push_id.Goals as goal

pub returns-then-is_hex_id : goal.returns-then-is_hex_id
returns-then-is_hex_id c =
    hex_pushed c.args.out.now.items c.args.id.now c.as_slice-text.result.now c.packed.result c.push.new.self.items c.extend_from_slice.new.self.items
    c.as_slice-text.ensures.bytes (sym c.is_hex_id.ensures ∙ c.if-is_hex_id.true) c.packed.ensures c.in_ok-push.ensures.items c.in_ok-extend_from_slice.ensures.items

pub returns : goal.returns
returns c =
    plain_pushed c.args.out.now.items c.args.id.now c.as_slice-text.result.now c.push-2.new.self.items c.extend_from_slice-2.new.self.items
    c.as_slice-text.ensures.bytes (sym c.is_hex_id.ensures ∙ c.if-is_hex_id.false) c.in_ok-push-2.ensures.items c.in_ok-extend_from_slice-2.ensures.items
