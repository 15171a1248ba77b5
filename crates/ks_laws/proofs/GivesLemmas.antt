-- What holds of all that a check gives where it goes on, and which outcomes of commands are good ones: the change fits, and what is told
-- can be.
use Rattle.std.proofs.Common.{◌≡◌, ℕ, ◌<◌, ◌^◌, Bool, true, false, Option, Some, None, refl, subst}
use Rattle.std.specs.Prelude.{IfSome}
use Rattle.ks_laws.specs.Laws.{FitsIf}
use Rattle.ks_machine.specs.declared.body_out.BodyOut.{BodyOut}
use Rattle.ks_machine.specs.declared.cause.Cause.{Cause}
use Rattle.ks_machine.specs.declared.change.Change.{Change}
use Rattle.ks_machine.specs.Attempts.{Attempt, Go, Stop, Lacks, ◌>>=◌, blame, each, found, need, unless}
use Rattle.ks_machine.specs.Lawful.{Fits}
use Rattle.ks_machine.specs.Outcomes.{Outcome, changes, tells}
use Rattle.ks_machine.specs.States.{State}
use Rattle.ks_machine.specs.Told.{IsBodyTellable}

unfoldable pub Gives : {E A : Type 0} → (A → Type 0) → Attempt E A → Type 0
Gives P (Go a) = P a
Gives P (Stop e) = Unit {0}
Gives P (Lacks l) = Unit {0}

pub gives_bind : {E A B : Type 0} (Q : A → Type 0) (P : B → Type 0) (a : Attempt E A) (f : A → Attempt E B) → Gives Q a → ((x : A) → Q x → Gives P (f x)) → Gives P (a >>= f)
unfolding Gives
gives_bind Q P (Go x) f is each = each x is
gives_bind Q P (Stop e) f is each = tt
gives_bind Q P (Lacks l) f is each = tt

pub gives_go : (E : Type 0) {A : Type 0} (P : A → Type 0) (a : A) → P a → Gives {E = E} P (Go a)
unfolding Gives
gives_go E P a is = is

pub gives_stop : {E : Type 0} (A : Type 0) (P : A → Type 0) (e : E) → Gives {A = A} P (Stop e)
unfolding Gives
gives_stop A P e = tt

pub gives_any : {E A : Type 0} (a : Attempt E A) → Gives (λ _. Unit {0}) a
unfolding Gives
gives_any (Go a) = tt
gives_any (Stop e) = tt
gives_any (Lacks l) = tt

-- a check of which nothing is needed
pub gives_past : {E A B : Type 0} (P : B → Type 0) (a : Attempt E A) (f : A → Attempt E B) → ((x : A) → Gives P (f x)) → Gives P (a >>= f)
gives_past P a f each = gives_bind (λ _. Unit {0}) P a f (gives_any a) (λ x _. each x)

pub gives_self : {E A : Type 0} (a : Attempt E A) → Gives (λ x. a ≡ Go x) a
unfolding Gives
gives_self (Go a) = refl
gives_self (Stop e) = tt
gives_self (Lacks l) = tt

pub gives_weaker : {E A : Type 0} (Q P : A → Type 0) (a : Attempt E A) → Gives Q a → ((x : A) → Q x → P x) → Gives P a
unfolding Gives
gives_weaker Q P (Go a) is then = then a is
gives_weaker Q P (Stop e) is then = tt
gives_weaker Q P (Lacks l) is then = tt

pub gives_need : {E : Type 0} (holds : Bool) (e : E) → Gives (λ _. holds ≡ true) (need holds e)
unfolding Gives
gives_need true e = refl
gives_need false e = tt

pub gives_found : {E A : Type 0} (o : Option A) (e : E) → Gives (λ a. o ≡ Some a) (found o e)
unfolding Gives
gives_found (Some a) e = refl
gives_found None e = tt

pub gives_some : {E A : Type 0} (P : A → Type 0) (o : Option A) (e : E) → IfSome o P → Gives P (found o e)
unfolding Gives
gives_some P (Some a) e is = is
gives_some P None e is = tt

pub gives_blame : {E F A : Type 0} (P : A → Type 0) (f : E → F) (a : Attempt E A) → Gives P a → Gives P (blame f a)
unfolding Gives
gives_blame P f (Go a) is = is
gives_blame P f (Stop e) is = tt
gives_blame P f (Lacks l) is = tt

gives_unless : {E : Type 0} (e : Option E) → Gives (λ _. e ≡ None) (unless e)
unfolding Gives
gives_unless None = refl
gives_unless (Some e) = tt

-- no fault applies
pub gives_fault : {E F : Type 0} (f : E → F) (e : Option E) → Gives (λ _. e ≡ None) (blame f (unless e))
gives_fault f e = gives_blame (λ _. e ≡ None) f (unless e) (gives_unless e)

-- what a check gives
pub given : {E A : Type 0} (P : A → Type 0) (a : Attempt E A) (x : A) → Gives P a → a ≡ Go x → P x
unfolding Gives
given P (Go a) x is goes = let same : a ≡ x = cc in of same
  where
    of : a ≡ x → P x
    of same = subst P same is
given P (Stop e) x is goes = cc
given P (Lacks l) x is goes = cc

-- good outcomes; the change need fit only while the journal has room

pub record IsGood (S : State) (moment : ℕ) (outcome : Outcome) : Type 0 where
  pub fits : S.made < 2 ^ 58 → FitsIf S moment outcome.change
  pub told : IsBodyTellable outcome.told

pub good_tells : (S : State) (moment : ℕ) (told : BodyOut) → IsBodyTellable told → Gives {E = Cause} (IsGood S moment) (Go (tells told))
good_tells S moment told is = gives_go Cause (IsGood S moment) (tells told) (record { fits = λ room. tt; told = is })

pub good_changes : (S : State) (moment : ℕ) (what : Change) (told : BodyOut) → (S.made < 2 ^ 58 → Fits S moment what) → IsBodyTellable told →
    Gives {E = Cause} (IsGood S moment) (Go (changes what told))
good_changes S moment what told fits is = gives_go Cause (IsGood S moment) (changes what told) (record { fits = fits; told = is })
