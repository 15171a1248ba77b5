-- The lines of validity in two parts: those that the facts, the payload and the time decide, and those that the revocations and the
-- rows decide.
use Rattle.std.specs.Prelude.{◌≡◌, ℕ, Bool, true, false, not, List, Option, Some, None, Result, Ok, Err}
use Rattle.ks_base.specs.declared.events.EventRow.{EventRow}
use Rattle.ks_base.specs.Revocation.{is_revoked}
use Rattle.ks_base.specs.Rows.{Text, Rows}
use Rattle.ks_fernet.specs.declared.opening.OpenAnswer.{OpenAnswer}
use Rattle.ks_fernet.specs.declared.opening.OpenAnswer.TheVariants.{NotText, No, Yes}
use Rattle.ks_machine.specs.Attempts.{Attempt, Go, Stop, Lacks, Keys, ◌>>=◌, Known, decided, need}
use Rattle.ks_machine.specs.States.{is_user_on}
use Rattle.ks_machine.specs.TokenLines.{token_lines}
use Rattle.ks_machine.specs.Validity.{Valid, holder, opens, has_roles, is_cred_line, is_scope_on, is_trust_line, roles_of}
use Rattle.ks_machine.specs.declared.lines.ReadToken.{ReadToken}
use Rattle.ks_machine.specs.declared.why.Why.{Why}
use Rattle.ks_machine.specs.declared.why.Why.TheVariants as why
use Rattle.ks_payload.specs.declared.payload.Payload.{Payload}
use Rattle.ks_ring.specs.declared.held_key.HeldKey.{HeldKey}
use Rattle.ks_auth.specs.declared.opening.Halt.{Halt}
use Rattle.ks_auth.specs.declared.opening.Halt.TheVariants as halt

-- the lines that facts, payload and time decide: what the token holds
unfoldable pub token_held : Known → List HeldKey → ℕ → ℕ → Bool → Text → Attempt Why ReadToken
token_held known keys life moment late text = do
  answer ← opens known keys text
  decided (token_lines life moment late answer)

-- | those that revocations and rows decide: what a token is that holds this payload
unfoldable pub row_lines : Rows → List EventRow → ℕ → Payload → ℕ → Attempt Why Valid
row_lines rows events moment payload issued = do
  _ ← need (not (is_revoked events (holder rows payload) issued)) why.Revoked
  _ ← need (is_user_on rows payload.user) why.User
  _ ← need (is_scope_on rows payload) why.Scope
  _ ← need (is_trust_line rows moment payload) why.Trust
  _ ← need (is_cred_line rows moment payload) why.Credential
  _ ← need (has_roles rows payload) why.Roles
  Go (record { payload = payload; issued = issued; roles = roles_of rows payload })

-- what stands in the way of a payload
abbrev pub IsStopped : {A : Type 0} → Attempt Why A → Halt → Type 0
IsStopped lines (halt.Refused why) = lines ≡ Stop why
IsStopped lines halt.Needs = (keys : List HeldKey) × (lines ≡ Lacks (Keys keys))

-- an answer to them: a payload and when it was issued, or what stands in the way
abbrev pub IsHeld : Attempt Why ReadToken → Result (Payload × ℕ) Halt → Type 0
IsHeld lines (Ok (payload, issued)) = (plain : List ℕ) × (lines ≡ Go (record { payload = payload; issued = issued; plain = plain }))
IsHeld lines (Err stop) = IsStopped lines stop

-- a plain text and when it was sealed
abbrev pub IsOpened : Attempt Why OpenAnswer → ℕ → List ℕ → Type 0
IsOpened answer issued plain = answer ≡ Go (Yes issued plain)

-- what stands in the way of a plain text
abbrev pub IsUnopened : Attempt Why OpenAnswer → Halt → Type 0
IsUnopened answer (halt.Refused why.Text) = answer ≡ Go NotText
IsUnopened answer (halt.Refused why.Key) = answer ≡ Go No
IsUnopened answer (halt.Refused other) = ⊥
IsUnopened answer halt.Needs = (keys : List HeldKey) × (answer ≡ Lacks (Keys keys))

-- what a key opened, unless a key above lacks its fact or has found no token
abbrev pub first_unless : {A : Type 0} → Bool → Bool → Option A → Result A Halt
first_unless true is_text opened = Err halt.Needs
first_unless false false opened = Err (halt.Refused why.Text)
first_unless false true None = Err (halt.Refused why.Key)
first_unless false true (Some found) = Ok found
