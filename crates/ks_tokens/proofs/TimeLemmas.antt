-- The lines of a token's payload and of the time hold exactly where they are said to.
use Rattle.std.proofs.Common.{◌≡◌, ℕ, ◌+◌, Bool, true, false, List, Option, Some, None, Result, Ok, refl, subst}
use Rattle.std.specs.Prelude.{nat_le, nat_lt}
use Rattle.ks_base.specs.Results.{found, need, ◌>>=◌}
use Rattle.ks_fernet.specs.declared.opening.OpenAnswer.{OpenAnswer}
use Rattle.ks_fernet.specs.declared.opening.OpenAnswer.TheVariants.{NotText, No, Yes}
use Rattle.ks_machine.specs.declared.lines.ReadToken.{ReadToken}
use Rattle.ks_machine.specs.declared.why.Why.TheVariants as why
use Rattle.ks_machine.specs.TokenLines.{end_of, payload_lines, token_lines}
use Rattle.ks_payload.specs.declared.payload.Payload.{Payload}
use Rattle.ks_payload.specs.Readings.{payload_of}

ok_found : {A B F : Type 0} (o : Option A) (e : F) (f : A → Result B F) (b : B) → found o e >>= f ≡ Ok b → (x : A) × (o ≡ Some x) × (f x ≡ Ok b)
ok_found (Some a) e f b is = (a, refl, is)
ok_found None e f b is = cc

ok_need : {B F : Type 0} (holds : Bool) (e : F) (f : Unit {0} → Result B F) (b : B) → need holds e >>= f ≡ Ok b → (holds ≡ true) × (f tt ≡ Ok b)
ok_need true e f b is = (refl, is)
ok_need false e f b is = cc

pub record InTime (life moment : ℕ) (late : Bool) (answer : OpenAnswer) (held : ReadToken) : Type 0 where
  pub answered : answer ≡ Yes held.issued held.plain
  pub payload : payload_of held.plain ≡ Some held.payload
  pub past : nat_le held.issued moment ≡ true
  pub unexpired : nat_lt moment (end_of late held.payload.expires) ≡ true
  pub span : nat_le held.payload.expires (held.issued + life) ≡ true

pub in_time : (life moment : ℕ) (late : Bool) (answer : OpenAnswer) (held : ReadToken) → token_lines life moment late answer ≡ Ok held → InTime life moment late answer held
unfolding payload_lines
in_time life moment late NotText held is = cc
in_time life moment late No held is = cc
in_time life moment late (Yes issued plain) held is =
    let payload = ok_found (payload_of plain) why.Payload _ held is in
    let past = ok_need (nat_le issued moment) why.Future _ held payload.2 in
    let unexpired = ok_need (nat_lt moment (end_of late payload.0.expires)) why.Expired _ held past.1 in
    let span = ok_need (nat_le payload.0.expires (issued + life)) why.Span _ held unexpired.1 in
    let one : record { payload = payload.0; issued = issued; plain = plain } ≡ held = cc in
    subst (InTime life moment late (Yes issued plain)) one (record { answered = refl; payload = payload.1; past = past.0; unexpired = unexpired.0; span = span.0 })

pub lines_pass : (life moment : ℕ) (late : Bool) (issued : ℕ) (plain : List ℕ) (payload : Payload) → payload_of plain ≡ Some payload → nat_le issued moment ≡ true
    → nat_lt moment (end_of late payload.expires) ≡ true → nat_le payload.expires (issued + life) ≡ true
    → token_lines life moment late (Yes issued plain) ≡ Ok (record { payload = payload; issued = issued; plain = plain })
unfolding payload_lines
lines_pass life moment late issued plain payload reads past unexpired span = rw (reads, past, unexpired, span) refl
