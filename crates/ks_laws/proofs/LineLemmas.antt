-- A token that the first lines of validity let through has a payload in range, and was issued before.
use Rattle.std.proofs.Common.{◌≡◌, ℕ, ◌+◌, ◌≤◌, Bool, true, false, List, Option, Some, None, Result, Ok, Err, refl}
use Rattle.std.specs.Prelude.{nat_le, nat_lt}
use Rattle.std.proofs.lemmas.Bool.{leb-true}
use Rattle.ks_base.specs.Results.{◌>>=◌, found, need}
use Rattle.ks_fernet.specs.declared.opening.OpenAnswer.{OpenAnswer}
use Rattle.ks_fernet.specs.declared.opening.OpenAnswer.TheVariants.{NotText, No, Yes}
use Rattle.ks_machine.specs.declared.lines.ReadToken.{ReadToken}
use Rattle.ks_machine.specs.declared.why.Why.{Why}
use Rattle.ks_machine.specs.declared.why.Why.TheVariants as why
use Rattle.ks_machine.specs.TokenLines.{end_of, payload_lines, token_lines}
use Rattle.ks_payload.specs.declared.payload.Payload.{Payload}
use Rattle.ks_payload.specs.Payloads.{IsInRange}
use Rattle.ks_payload.specs.Readings.{payload_of}
use Rattle.ks_payload.proofs.PayloadLemmas.{read_payload}

unfoldable pub Passes : {A : Type 0} → (A → Type 0) → Result A Why → Type 0
Passes P (Ok a) = P a
Passes P (Err e) = Unit {0}

passes_bind : {A B : Type 0} (Q : A → Type 0) (P : B → Type 0) (r : Result A Why) (f : A → Result B Why) → Passes Q r → ((x : A) → Q x → Passes P (f x)) → Passes P (r >>= f)
unfolding Passes
passes_bind Q P (Ok x) f is each = each x is
passes_bind Q P (Err e) f is each = tt

passes_ok : {A : Type 0} (P : A → Type 0) (a : A) → P a → Passes P (Ok a)
unfolding Passes
passes_ok P a is = is

passes_need : (holds : Bool) (e : Why) → Passes (λ _. holds ≡ true) (need holds e)
unfolding Passes
passes_need true e = refl
passes_need false e = tt

passes_found : {A : Type 0} (o : Option A) (e : Why) → Passes (λ a. o ≡ Some a) (found o e)
unfolding Passes
passes_found (Some a) e = refl
passes_found None e = tt

passes_fails : {A : Type 0} (P : A → Type 0) (e : Why) → Passes P (Err e)
unfolding Passes
passes_fails P e = tt

pub record IsRead (moment : ℕ) (held : ReadToken) : Type 0 where
  pub range : IsInRange held.payload
  pub issued : held.issued ≤ moment

lines_read : (life moment : ℕ) (late : Bool) (issued : ℕ) (plain : List ℕ) → Passes (IsRead moment) (payload_lines life moment late issued plain)
unfolding payload_lines
lines_read life moment late issued plain =
    passes_bind (λ (payload : Payload). payload_of plain ≡ Some payload) (IsRead moment) (found (payload_of plain) why.Payload) _ (passes_found (payload_of plain) why.Payload) (λ payload reads.
    passes_bind (λ _. nat_le issued moment ≡ true) (IsRead moment) (need (nat_le issued moment) why.Future) _ (passes_need (nat_le issued moment) why.Future) (λ _ past.
    passes_bind (λ _. nat_lt moment (end_of late payload.expires) ≡ true) (IsRead moment) (need (nat_lt moment (end_of late payload.expires)) why.Expired) _
    (passes_need (nat_lt moment (end_of late payload.expires)) why.Expired) (λ _ valid.
    passes_bind (λ _. nat_le payload.expires (issued + life) ≡ true) (IsRead moment) (need (nat_le payload.expires (issued + life)) why.Span) _
    (passes_need (nat_le payload.expires (issued + life)) why.Span) (λ _ short.
    passes_ok (IsRead moment) (record { payload = payload; issued = issued; plain = plain })
    (record { range = (read_payload payload plain reads).0; issued = leb-true issued moment past })))))

pub token_read : (life moment : ℕ) (late : Bool) (answer : OpenAnswer) → Passes (IsRead moment) (token_lines life moment late answer)
token_read life moment late NotText = passes_fails (IsRead moment) why.Text
token_read life moment late No = passes_fails (IsRead moment) why.Key
token_read life moment late (Yes issued plain) = lines_read life moment late issued plain
