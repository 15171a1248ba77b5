-- A token that is held is in time: it can still be asked for, so that the live revocations are those that count.
use Rattle.std.proofs.Common.{◌≡◌, ℕ, ◌+◌, ◌<◌, ◌≤◌, Bool, true, false, List, Option, Some, None, Result, Ok, Err, arith, refl, subst}
use Rattle.std.specs.Prelude.{nat_lt, nat_le}
use Rattle.std.proofs.lemmas.Bool.{ltb-true, leb-true}
use Rattle.ks_base.specs.Revocation.{window}
use Rattle.ks_base.specs.Rows.{Text}
use Rattle.ks_base.specs.Results.{◌>>=◌, found, need}
use Rattle.ks_fernet.specs.declared.opening.OpenAnswer.{OpenAnswer}
use Rattle.ks_fernet.specs.declared.opening.OpenAnswer.TheVariants.{NotText, No, Yes}
use Rattle.ks_machine.specs.Attempts as attempts
use Rattle.ks_machine.specs.Attempts.{Attempt, Go, Stop, Lacks, Known, decided}
use Rattle.ks_machine.specs.TokenLines.{end_of, payload_lines, token_lines}
use Rattle.ks_machine.specs.Validity.{opens}
use Rattle.ks_machine.specs.declared.lines.ReadToken.{ReadToken}
use Rattle.ks_machine.specs.declared.why.Why.{Why}
use Rattle.ks_machine.specs.declared.why.Why.TheVariants as why
use Rattle.ks_payload.specs.Readings.{payload_of}
use Rattle.ks_ring.specs.declared.held_key.HeldKey.{HeldKey}
use Rattle.ks_auth.specs.Lines.{token_held}

pub ok_need : {A : Type 0} (holds : Bool) (w : Why) (f : Unit {0} → Result A Why) (a : A) → need holds w >>= f ≡ Ok a → (holds ≡ true) × (f tt ≡ Ok a)
ok_need true w f a is = (refl, is)
ok_need false w f a is = cc

pub ok_found : {A B : Type 0} (o : Option A) (w : Why) (f : A → Result B Why) (b : B) → found o w >>= f ≡ Ok b → (x : A) × (o ≡ Some x) × (f x ≡ Ok b)
ok_found (Some x) w f b is = (x, refl, is)
ok_found None w f b is = cc

in_time_by : (late : Bool) (moment expires issued life : ℕ) → moment < end_of late expires → expires ≤ issued + life → moment < issued + life + window
in_time_by true moment expires issued life before span = omega (arith, before, span)
in_time_by false moment expires issued life before span = omega (arith, before, span)

lines_in_time : (life moment : ℕ) (late : Bool) (issued : ℕ) (plain : List ℕ) (held : ReadToken) → payload_lines life moment late issued plain ≡ Ok held →
    moment < held.issued + life + window
unfolding payload_lines
lines_in_time life moment late issued plain held is =
    let payload = ok_found (payload_of plain) why.Payload _ held is in
    let future = ok_need (nat_le issued moment) why.Future _ held payload.2 in
    let expired = ok_need (nat_lt moment (end_of late payload.0.expires)) why.Expired _ held future.1 in
    let span = ok_need (nat_le payload.0.expires (issued + life)) why.Span _ held expired.1 in
    let same : issued ≡ held.issued = cc in
    subst (λ (n : ℕ). moment < n + life + window) same
    (in_time_by late moment payload.0.expires issued life (ltb-true moment (end_of late payload.0.expires) expired.0) (leb-true payload.0.expires (issued + life) span.0))

decided_ok : {A : Type 0} (r : Result A Why) (a : A) → decided r ≡ Go a → r ≡ Ok a
decided_ok (Ok x) a is = cc
decided_ok (Err e) a is = cc

by_answer : (life moment : ℕ) (late : Bool) (answer : OpenAnswer) (held : ReadToken) → decided (token_lines life moment late answer) ≡ Go held → moment < held.issued + life + window
by_answer life moment late NotText held is = cc
by_answer life moment late No held is = cc
by_answer life moment late (Yes issued plain) held is = lines_in_time life moment late issued plain held (decided_ok _ held is)

by_opening : (life moment : ℕ) (late : Bool) (said : Attempt Why OpenAnswer) (held : ReadToken) →
    attempts.◌>>=◌ said (λ answer. decided (token_lines life moment late answer)) ≡ Go held → moment < held.issued + life + window
by_opening life moment late (Go answer) held is = by_answer life moment late answer held is
by_opening life moment late (Stop w) held is = cc
by_opening life moment late (Lacks lack) held is = cc

pub held_in_time : (known : Known) (keys : List HeldKey) (life moment : ℕ) (late : Bool) (text : Text) (held : ReadToken) →
    token_held known keys life moment late text ≡ Go held → moment < held.issued + life + window
unfolding token_held
held_in_time known keys life moment late text held is = by_opening life moment late (opens known keys text) held is

-- so it is within the time for which the events that have gone by can end no token
pub asked_in_time : (high moment issued life settled : ℕ) → high ≤ moment → life ≡ settled → moment < issued + settled + window → high < issued + life + window
asked_in_time high moment issued life settled not_after same before = rw same (omega (arith, not_after, before))
