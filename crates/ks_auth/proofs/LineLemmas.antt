-- The lines of validity, in their two parts.
use Rattle.std.proofs.Common.{◌≡◌, ℕ, Bool, true, false, List, Ok, refl, ap, sym, ◌∙◌}
use Rattle.ks_base.specs.declared.events.EventRow.{EventRow}
use Rattle.ks_base.specs.Revocation.{is_revoked}
use Rattle.ks_base.specs.Rows.{Id, Rows, Text}
use Rattle.ks_fernet.specs.declared.opening.OpenAnswer.{OpenAnswer}
use Rattle.ks_machine.specs.Attempts.{Attempt, Go, Stop, Lacks, Keys, ◌>>=◌, Known, decided}
use Rattle.ks_machine.specs.States.{State, is_user_on}
use Rattle.ks_machine.specs.TokenLines.{payload_lines, token_lines}
use Rattle.ks_machine.specs.Validity.{Valid, has_roles, held_lines, holder, is_cred_line, is_scope_on, is_trust_line, opens, roles_of, validity}
use Rattle.ks_machine.specs.declared.lines.ReadToken.{ReadToken}
use Rattle.ks_machine.specs.declared.why.Why.{Why}
use Rattle.ks_machine.specs.declared.why.Why.TheVariants as why
use Rattle.ks_payload.specs.declared.payload.Payload.{Payload}
use Rattle.ks_ring.specs.declared.held_key.HeldKey.{HeldKey}
use Rattle.ks_auth.specs.declared.tables.Tables.{Tables}
use Rattle.ks_auth.specs.Answers.{Tells, rows_told}
use Rattle.ks_auth.specs.Lines.{IsOpened, token_held, row_lines}

-- an opened token whose next lines hold
pub held_of : (known : Known) (keys : List HeldKey) (life moment : ℕ) (late : Bool) (text : Text) (issued : ℕ) (plain : List ℕ) (held : ReadToken) →
    IsOpened (opens known keys text) issued plain → payload_lines life moment late issued plain ≡ Ok held → token_held known keys life moment late text ≡ Go held
unfolding token_held
held_of known keys life moment late text issued plain held opened lines =
    ap (λ said. said >>= (λ answer. decided (token_lines life moment late answer))) opened ∙ ap decided lines

-- what follows upon a part
abbrev pub after_held : State → ℕ → ReadToken → Attempt Why Valid
after_held S moment held = row_lines S.rows S.events moment held.payload held.issued

regrouped : (said : Attempt Why OpenAnswer) (first : OpenAnswer → Attempt Why ReadToken) (rest : ReadToken → Attempt Why Valid) →
    said >>= (λ answer. first answer >>= rest) ≡ (said >>= first) >>= rest
regrouped (Go answer) first rest = refl
regrouped (Stop why) first rest = refl
regrouped (Lacks lack) first rest = refl

pub in_parts : (known : Known) (S : State) (moment : ℕ) (late : Bool) (text : Text) →
    validity known S moment late text ≡ token_held known S.ring.held S.settings.life moment late text >>= after_held S moment
unfolding validity held_lines token_held row_lines
in_parts known S moment late text =
    regrouped (opens known S.ring.held text) (λ answer. decided (token_lines S.settings.life moment late answer)) (after_held S moment)

-- the same by the tables that tell the state
abbrev pub held_by : Known → Tables → ℕ → Bool → Text → Attempt Why ReadToken
held_by known tables moment late text = token_held known tables.ring.now.held tables.settings.now.life moment late text

pub in_told_parts : (known : Known) (tables : Tables) (S : State) (moment : ℕ) (late : Bool) (text : Text) → Tells tables S →
    validity known S moment late text ≡ held_by known tables moment late text >>= after_held S moment
in_told_parts known tables S moment late text tells =
    in_parts known S moment late text
    ∙ ap (λ settings. token_held known S.ring.held settings.life moment late text >>= after_held S moment) tells.settings
    ∙ ap (λ ring. token_held known ring.held tables.settings.now.life moment late text >>= after_held S moment) tells.ring

-- a part that stops, lacks a fact or goes on

pub held_stops : (known : Known) (tables : Tables) (S : State) (moment : ℕ) (late : Bool) (text : Text) (why : Why) → Tells tables S →
    held_by known tables moment late text ≡ Stop why → validity known S moment late text ≡ Stop why
held_stops known tables S moment late text why tells stops =
    in_told_parts known tables S moment late text tells ∙ ap (λ said. said >>= after_held S moment) stops

pub held_lacks : (known : Known) (tables : Tables) (S : State) (moment : ℕ) (late : Bool) (text : Text) (keys : List HeldKey) → Tells tables S →
    held_by known tables moment late text ≡ Lacks (Keys keys) → validity known S moment late text ≡ Lacks (Keys keys)
held_lacks known tables S moment late text keys tells lacks =
    in_told_parts known tables S moment late text tells ∙ ap (λ said. said >>= after_held S moment) lacks

pub held_goes : (known : Known) (tables : Tables) (S : State) (moment : ℕ) (late : Bool) (text : Text) (held : ReadToken) → Tells tables S →
    held_by known tables moment late text ≡ Go held →
    validity known S moment late text ≡ row_lines (rows_told tables) S.events moment held.payload held.issued
held_goes known tables S moment late text held tells goes =
    in_told_parts known tables S moment late text tells ∙ ap (λ said. said >>= after_held S moment) goes
    ∙ ap (λ rows. row_lines rows S.events moment held.payload held.issued) tells.rows

-- the lines that the revocations and the rows decide, by what the tests say

pub stops_revoked : (rows : Rows) (events : List EventRow) (moment : ℕ) (payload : Payload) (issued : ℕ) →
    true ≡ is_revoked events (holder rows payload) issued → row_lines rows events moment payload issued ≡ Stop why.Revoked
unfolding row_lines
stops_revoked rows events moment payload issued revoked = rw (sym revoked) refl

pub stops_user : (rows : Rows) (events : List EventRow) (moment : ℕ) (payload : Payload) (issued : ℕ) →
    false ≡ is_revoked events (holder rows payload) issued → false ≡ is_user_on rows payload.user →
    row_lines rows events moment payload issued ≡ Stop why.User
unfolding row_lines
stops_user rows events moment payload issued revoked user = rw (sym revoked, sym user) refl

pub stops_scope : (rows : Rows) (events : List EventRow) (moment : ℕ) (payload : Payload) (issued : ℕ) →
    false ≡ is_revoked events (holder rows payload) issued → true ≡ is_user_on rows payload.user → false ≡ is_scope_on rows payload →
    row_lines rows events moment payload issued ≡ Stop why.Scope
unfolding row_lines
stops_scope rows events moment payload issued revoked user scope = rw (sym revoked, sym user, sym scope) refl

pub stops_trust : (rows : Rows) (events : List EventRow) (moment : ℕ) (payload : Payload) (issued : ℕ) →
    false ≡ is_revoked events (holder rows payload) issued → true ≡ is_user_on rows payload.user → true ≡ is_scope_on rows payload →
    false ≡ is_trust_line rows moment payload → row_lines rows events moment payload issued ≡ Stop why.Trust
unfolding row_lines
stops_trust rows events moment payload issued revoked user scope trust = rw (sym revoked, sym user, sym scope, sym trust) refl

pub stops_cred : (rows : Rows) (events : List EventRow) (moment : ℕ) (payload : Payload) (issued : ℕ) →
    false ≡ is_revoked events (holder rows payload) issued → true ≡ is_user_on rows payload.user → true ≡ is_scope_on rows payload →
    true ≡ is_trust_line rows moment payload → false ≡ is_cred_line rows moment payload → row_lines rows events moment payload issued ≡ Stop why.Credential
unfolding row_lines
stops_cred rows events moment payload issued revoked user scope trust cred = rw (sym revoked, sym user, sym scope, sym trust, sym cred) refl

pub stops_roles : (rows : Rows) (events : List EventRow) (moment : ℕ) (payload : Payload) (issued : ℕ) →
    false ≡ is_revoked events (holder rows payload) issued → true ≡ is_user_on rows payload.user → true ≡ is_scope_on rows payload →
    true ≡ is_trust_line rows moment payload → true ≡ is_cred_line rows moment payload → false ≡ has_roles rows payload →
    row_lines rows events moment payload issued ≡ Stop why.Roles
unfolding row_lines
stops_roles rows events moment payload issued revoked user scope trust cred roles =
    rw (sym revoked, sym user, sym scope, sym trust, sym cred, sym roles) refl

pub all_hold : (rows : Rows) (events : List EventRow) (moment : ℕ) (payload : Payload) (issued : ℕ) (ids : List Id) →
    false ≡ is_revoked events (holder rows payload) issued → true ≡ is_user_on rows payload.user → true ≡ is_scope_on rows payload →
    true ≡ is_trust_line rows moment payload → true ≡ is_cred_line rows moment payload → true ≡ has_roles rows payload → ids ≡ roles_of rows payload →
    row_lines rows events moment payload issued ≡ Go (record { payload = payload; issued = issued; roles = ids })
unfolding row_lines
all_hold rows events moment payload issued ids revoked user scope trust cred roles is =
    rw (sym revoked, sym user, sym scope, sym trust, sym cred, sym roles, is) refl
