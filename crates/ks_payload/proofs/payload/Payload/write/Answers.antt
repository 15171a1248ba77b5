use Rattle.std.proofs.Common.{◌≡◌, ◌∙◌, inl}
use Rattle.ks_payload.specs.Payloads.{spelling}
use Rattle.ks_payload.proofs.PayloadLemmas.{written, reads_payload}
use Rattle.ks_payload.proofs.payload.Payload.write.Goals as goal

spelled : (c : goal.After-from_vec) → c.from_vec.result ≡ spelling c.args.self.now
spelled c =
    c.from_vec.ensures ∙ written c.args.self.now c.in_ok-out.out.items c.extend_from_slice.new.self.items c.push_id.new.out.items
    c.push_id_if_any.new.out.items c.push_id_if_any-2.new.out.items c.push_id_if_any-3.new.out.items c.push_id_if_any-4.new.out.items c.extend_from_slice-2.new.self.items c.push_audits.new.out.items
    c.in_ok-out.ensures.items c.in_ok-extend_from_slice.ensures.items c.in_ok-push_id.ensures c.in_ok-push_id_if_any.ensures
    c.in_ok-push_id_if_any-2.ensures c.in_ok-push_id_if_any-3.ensures c.in_ok-push_id_if_any-4.ensures (rw (← c.to_be_bytes.ensures) c.in_ok-extend_from_slice-2.ensures.items) c.in_ok-push_audits.ensures

pub returns-clause-spelled : goal.returns-clause-spelled
returns-clause-spelled c = spelled c

pub returns-clause-payload : goal.returns-clause-payload
returns-clause-payload c = (c.requires, inl (spelled c))

pub returns-clause-round_trip : goal.returns-clause-round_trip
returns-clause-round_trip c = reads_payload c.args.self.now c.from_vec.result (c.requires, inl (spelled c))
