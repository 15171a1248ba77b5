-- What holds of whatever fact a check lacks: nothing is to be shown of one that lacks none.
use Rattle.std.proofs.Common.{◌≡◌, Bool, true, false, List, [], ◌∷◌, Option, Some, None, Result, Ok, Err, refl}
use Rattle.ks_machine.specs.Attempts.{Attempt, Go, Stop, Lacks, Lack, ◌>>=◌, asked, blame, decided, each, found, need, unless}

unfoldable pub Asks : {E A : Type 0} → (Lack → Type 0) → Attempt E A → Type 0
Asks P (Go a) = Unit {0}
Asks P (Stop e) = Unit {0}
Asks P (Lacks lack) = P lack

pub asks_bind : {E A B : Type 0} (P : Lack → Type 0) (a : Attempt E A) (f : A → Attempt E B) → Asks P a → ((x : A) → Asks P (f x)) → Asks P (a >>= f)
unfolding Asks
asks_bind P (Go x) f is each = each x
asks_bind P (Stop e) f is each = tt
asks_bind P (Lacks lack) f is each = is

-- what it goes on to is given
pub asks_map : {E A B : Type 0} (P : Lack → Type 0) (a : Attempt E A) (f : A → B) → Asks P a → Asks P (a >>= (λ x. Go (f x)))
unfolding Asks
asks_map P a f is = asks_bind P a (λ x. Go (f x)) is (λ x. tt)

pub asks_go : (E : Type 0) {A : Type 0} (P : Lack → Type 0) (a : A) → Asks {E = E} P (Go a)
unfolding Asks
asks_go E P a = tt

pub asks_stop : {E : Type 0} (A : Type 0) (P : Lack → Type 0) (e : E) → Asks {A = A} P (Stop e)
unfolding Asks
asks_stop A P e = tt

pub asks_need : {E : Type 0} (P : Lack → Type 0) (holds : Bool) (e : E) → Asks P (need holds e)
unfolding Asks
asks_need P true e = tt
asks_need P false e = tt

pub asks_found : {E A : Type 0} (P : Lack → Type 0) (o : Option A) (e : E) → Asks P (found o e)
unfolding Asks
asks_found P (Some a) e = tt
asks_found P None e = tt

pub asks_unless : {E : Type 0} (P : Lack → Type 0) (e : Option E) → Asks P (unless e)
unfolding Asks
asks_unless P None = tt
asks_unless P (Some e) = tt

pub asks_decided : {E A : Type 0} (P : Lack → Type 0) (r : Result A E) → Asks P (decided r)
unfolding Asks
asks_decided P (Ok a) = tt
asks_decided P (Err e) = tt

pub asks_blame : {E F A : Type 0} (P : Lack → Type 0) (f : E → F) (a : Attempt E A) → Asks P a → Asks P (blame f a)
unfolding Asks
asks_blame P f (Go a) is = tt
asks_blame P f (Stop e) is = tt
asks_blame P f (Lacks lack) is = is

pub asks_fault : {E F : Type 0} (P : Lack → Type 0) (f : E → F) (e : Option E) → Asks P (blame f (unless e))
asks_fault P f e = asks_blame P f (unless e) (asks_unless P e)

pub asks_each : {E A : Type 0} (P : Lack → Type 0) (check : A → Attempt E (Unit {0})) (items : List A) → ((a : A) → Asks P (check a)) → Asks P (each check items)
unfolding Asks
asks_each P check [] is = tt
asks_each P check (a ∷ more) is = asks_bind P (check a) _ (is a) (λ passed. asks_each P check more is)

-- a fact is asked for where it is not known
pub asks_asked : (E : Type 0) {A : Type 0} (P : Lack → Type 0) (lack : Lack) (fact : Option A) → (fact ≡ None → P lack) → Asks {E = E} P (asked lack fact)
unfolding Asks
asks_asked E P lack (Some a) is = tt
asks_asked E P lack None is = is refl

-- what was found, and what holds, is known behind it
pub asks_behind_found : {E A B : Type 0} (P : Lack → Type 0) (o : Option A) (e : E) (f : A → Attempt E B) → ((x : A) → o ≡ Some x → Asks P (f x)) → Asks P (found o e >>= f)
unfolding Asks
asks_behind_found P (Some a) e f each = each a refl
asks_behind_found P None e f each = tt

pub asks_behind_need : {E B : Type 0} (P : Lack → Type 0) (holds : Bool) (e : E) (f : Unit {0} → Attempt E B) → (holds ≡ true → Asks P (f tt)) → Asks P (need holds e >>= f)
unfolding Asks
asks_behind_need P true e f then = then refl
asks_behind_need P false e f then = tt
