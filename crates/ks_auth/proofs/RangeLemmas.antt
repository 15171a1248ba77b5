-- What a valid token's payload and user are: the payload has a spelling, and the user stands.
use Rattle.std.proofs.Common.{◌≡◌, ℕ, ◌+◌, Bool, true, false, ◌&&◌, List, Option, Some, None, Result, Ok, Err, IfOk, IsSome, refl, subst}
use Rattle.std.specs.Option.{option_map_or}
use Rattle.std.specs.Prelude.{nat_lt, nat_le}
use Rattle.ks_base.specs.declared.users.UserRow.{UserRow}
use Rattle.ks_base.specs.Rows.{Id, Rows, user_of}
use Rattle.ks_machine.specs.States.{is_domain_on, is_user_on}
use Rattle.ks_machine.specs.TokenLines.{end_of, payload_lines}
use Rattle.ks_machine.specs.declared.lines.ReadToken.{ReadToken}
use Rattle.ks_machine.specs.declared.why.Why.TheVariants as why
use Rattle.ks_payload.specs.declared.payload.Payload.{Payload}
use Rattle.ks_payload.specs.Laws.{FindsEachPayload}
use Rattle.ks_payload.specs.Payloads.{IsInRange}
use Rattle.ks_payload.specs.Readings.{payload_of}
use Rattle.ks_auth.specs.declared.opening.Halt.{Halt}
use Rattle.ks_auth.proofs.TimeLemmas.{ok_found, ok_need}

pub lines_in_range : FindsEachPayload → (life moment : ℕ) (late : Bool) (issued : ℕ) (plain : List ℕ) (held : ReadToken) →
    payload_lines life moment late issued plain ≡ Ok held → IsInRange held.payload
unfolding payload_lines
lines_in_range finds life moment late issued plain held is =
    let payload = ok_found (payload_of plain) why.Payload _ held is in
    let future = ok_need (nat_le issued moment) why.Future _ held payload.2 in
    let expired = ok_need (nat_lt moment (end_of late payload.0.expires)) why.Expired _ held future.1 in
    let span = ok_need (nat_le payload.0.expires (issued + life)) why.Span _ held expired.1 in
    let same : payload.0 ≡ held.payload = cc in
    subst IsInRange same ((finds plain payload.0).0 payload.1).0

pub found_in_range : (found : Result (Payload × ℕ) Halt) (payload : Payload) (issued : ℕ) → found ≡ Ok (payload, issued) →
    IfOk found (λ held. IsInRange held.0) → IsInRange payload
found_in_range found payload issued is range =
    let P : Result (Payload × ℕ) Halt → Type 0 = λ held. IfOk held (λ token. IsInRange token.0) in
    subst P is range

stands_by : (test : UserRow → Bool) (user : Option UserRow) → true ≡ option_map_or test user false → IsSome user
stands_by test (Some row) on = refl
stands_by test None on = cc

pub user_stands : (rows : Rows) (id : Id) → true ≡ is_user_on rows id → IsSome (user_of id rows.users)
user_stands rows id on = stands_by (λ user. user.enabled && is_domain_on rows user.domain) (user_of id rows.users) on
