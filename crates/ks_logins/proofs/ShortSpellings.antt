-- Payloads have short spellings.
use Rattle.std.proofs.Common.{◌≡◌, ℕ, ◌≤◌, Bool, true, false, refl, List, length, Option, Some, None, IfSome, arith, length-append}
use Rattle.std.specs.Int.{w64, to_be_bytes}
use Rattle.ks_base.specs.Ids.{IsId}
use Rattle.ks_payload.specs.declared.payload.Payload.{Payload}
use Rattle.ks_payload.specs.IdFields.{id_field, is_hex_id}
use Rattle.ks_payload.specs.Payloads.{IsInRange, IsSixteenBytes, audit_field, field_if_any, spelling}
use Rattle.ks_payload.proofs.FieldLemmas.{id_field_of_hex, id_field_of_plain}
use Rattle.ks_payload.proofs.HexLemmas.{hex_id_bytes}

short_by : (id : List ℕ) (hex : Bool) → is_hex_id id ≡ hex → length id ≤ 64 → length (id_field id) ≤ 65
short_by id true is few = let digits = (hex_id_bytes id is).1 in rw (id_field_of_hex id is) (omega arith)
short_by id false is few = rw (id_field_of_plain id is) (omega arith)

short_field : (id : List ℕ) → IsId id → length (id_field id) ≤ 65
short_field id is = short_by id (is_hex_id id) refl is.1

short_if_any : (id : Option (List ℕ)) → IfSome id IsId → length (field_if_any id) ≤ 65
short_if_any (Some id) is = short_field id is
short_if_any None is = omega arith

short_audits : (audit : List ℕ) (chain : Option (List ℕ)) → IsSixteenBytes audit → IfSome chain IsSixteenBytes → length (audit_field audit chain) ≤ 33
short_audits audit None first second = let sixteen = first.0 in omega arith
short_audits audit (Some chain) first second = let sixteen = first.0 in let more = second.0 in omega (arith, length-append audit chain)

pub short_spelling : (p : Payload) → IsInRange p → length (spelling p) ≤ 640
unfolding spelling
short_spelling p range =
    let user = short_field p.user range.user in
    let domain = short_if_any p.domain range.domain in
    let project = short_if_any p.project range.project in
    let trust = short_if_any p.trust range.trust in
    let credential = short_if_any p.credential range.credential in
    let audits = short_audits p.audit p.chain range.audit range.chain in
    let eight : length (to_be_bytes w64 p.expires) ≡ 8 = refl in
    simp length-append (omega arith)
