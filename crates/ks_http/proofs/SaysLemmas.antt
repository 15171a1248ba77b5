-- A refusal stays one, whatever would follow.
use Rattle.std.proofs.Common.{◌≡◌, ℕ, List, Result, Ok, Err, refl, sym, ap, ◌∙◌, subst}
use Rattle.std.specs.Prelude.{IsUtf8, Option, codes}
use Rattle.std.proofs.lemmas.Str.{is_utf8-from_IsUtf8}
use Rattle.ks_http.specs.declared.cause.HttpCause.{HttpCause}
use Rattle.ks_http.specs.declared.cause.HttpCause.TheVariants.{Malformed}
use Rattle.ks_http.specs.declared.ending.Ending.{Ending}
use Rattle.ks_http.specs.declared.ending.Ending.TheVariants.{End, Bad, ReadFault, Memory}
use Rattle.ks_http.specs.declared.parts.RequestParts.{RequestParts}
use Rattle.ks_http.specs.Fields.{Named, values_of}
use Rattle.ks_http.specs.Heads.{behind, text_of, path_text, token_of, body_length, said_of, with_path, with_auth, with_subject, with_length}
use Rattle.ks_http.specs.steps.Says.{Refuses, Says}
use Rattle.ks_http.proofs.Basics.{is_utf8_false}

behind_err : {A B : Type 0} (f : A → Result B HttpCause) (cause : HttpCause) → behind f (Err cause) ≡ Err cause
unfolding behind
behind_err f cause = refl

pub behind_ok : {A B : Type 0} (f : A → Result B HttpCause) (said : Result A HttpCause) (a : A) → said ≡ Ok a → behind f said ≡ f a
unfolding behind
behind_ok f said a e = ap (behind f) e

pub refuses : {A B : Type 0} (f : A → Result B HttpCause) (said : Result A HttpCause) (e : Ending) → Refuses said e → Refuses (behind f said) e
refuses f said (Bad cause) h = ap (behind f) h ∙ behind_err f cause
refuses f said Memory h = tt
refuses f said End h = absurd h
refuses f said ReadFault h = absurd h

pub refuses_subject : (method target : List ℕ) (minor : ℕ) (fields : List Named) (path : List ℕ) (auth : Option (List ℕ)) (e : Ending)
    → path_text target ≡ Ok path → token_of (values_of (codes "X-Auth-Token") fields) ≡ Ok auth
    → Refuses (token_of (values_of (codes "X-Subject-Token") fields)) e → Refuses (said_of method target minor fields) e
refuses_subject method target minor fields path auth e p a h =
    subst (λ s. Refuses s e) (sym (behind_ok (with_path method target minor fields) _ path p ∙ behind_ok (with_auth method target minor fields path) _ auth a))
    (refuses (with_subject method target minor fields path auth) _ e h)

pub said_subject : (method target : List ℕ) (minor : ℕ) (fields : List Named) (path : List ℕ) (auth subject : Option (List ℕ))
    → path_text target ≡ Ok path → token_of (values_of (codes "X-Auth-Token") fields) ≡ Ok auth
    → token_of (values_of (codes "X-Subject-Token") fields) ≡ Ok subject
    → said_of method target minor fields ≡ with_subject method target minor fields path auth subject
said_subject method target minor fields path auth subject p a s =
    behind_ok (with_path method target minor fields) _ path p
    ∙ (behind_ok (with_auth method target minor fields path) _ auth a ∙ behind_ok (with_subject method target minor fields path auth) _ subject s)

pub refuses_length : (method target : List ℕ) (minor : ℕ) (fields : List Named) (path : List ℕ) (auth subject : Option (List ℕ)) (e : Ending)
    → path_text target ≡ Ok path → token_of (values_of (codes "X-Auth-Token") fields) ≡ Ok auth
    → token_of (values_of (codes "X-Subject-Token") fields) ≡ Ok subject
    → Refuses (body_length fields) e → Refuses (said_of method target minor fields) e
refuses_length method target minor fields path auth subject e p a s h =
    subst (λ x. Refuses x e) (sym (said_subject method target minor fields path auth subject p a s))
    (refuses (with_length method target minor fields path auth subject) _ e h)

pub said_all : (method target : List ℕ) (minor : ℕ) (fields : List Named) (path : List ℕ) (auth subject : Option (List ℕ)) (count : ℕ)
    → path_text target ≡ Ok path → token_of (values_of (codes "X-Auth-Token") fields) ≡ Ok auth
    → token_of (values_of (codes "X-Subject-Token") fields) ≡ Ok subject → body_length fields ≡ Ok count
    → said_of method target minor fields ≡ with_length method target minor fields path auth subject count
said_all method target minor fields path auth subject count p a s l =
    said_subject method target minor fields path auth subject p a s ∙ behind_ok (with_length method target minor fields path auth subject) _ count l

pub text_ok : (bytes text : List ℕ) → text ≡ bytes → IsUtf8 bytes → text_of bytes ≡ Ok text
unfolding text_of
text_ok bytes text same utf8 = let t = is_utf8-from_IsUtf8 bytes utf8 in rw t (ap (λ x. Ok x) (sym same))

pub text_bad : (bytes : List ℕ) → (IsUtf8 bytes → ⊥) → text_of bytes ≡ Err Malformed
unfolding text_of
text_bad bytes none = let t = is_utf8_false bytes none in rw t refl

pub says_same : {m m' t t' : List ℕ} {n n' : ℕ} {f f' : List Named} (r : Result RequestParts Ending) → m ≡ m' → t ≡ t' → n ≡ n' → f ≡ f'
    → Says (said_of m t n f) r → Says (said_of m' t' n' f') r
says_same {m = m} {m' = m'} {t = t} {t' = t'} {n = n} {n' = n'} {f = f} {f' = f'} r a b d e h =
    subst (λ x. Says (said_of m' t' n' x) r) e (subst (λ x. Says (said_of m' t' x f) r) d (subst (λ x. Says (said_of m' x n f) r) b (subst (λ x. Says (said_of x t n f) r) a h)))
