-- Facts found in their lists.
use Rattle.std.proofs.Common.{◌≡◌, ℕ, ◌+◌, ◌<◌, true, ◌&&◌, ◌==◌, if◌then◌else◌, List, ◌∷◌, length, Some, None, bytes_eq, refl, sym, ap, ◌∙◌, arith, get_or, drop}
use Rattle.std.proofs.lemmas.Bool.{and_parts}
use Rattle.std.proofs.lemmas.Bool.Decides.{nat_tests}
use Rattle.std.proofs.lemmas.List.{drop_more}
use Rattle.std.proofs.lemmas.Slice.Eq.{bytes_eq-Decides}
use Rattle.ks_base.specs.Rows.{Text}
use Rattle.ks_fernet.specs.Opened.{Opening}
use Rattle.ks_fernet.specs.Opening.{open_of}
use Rattle.ks_hmac.specs.Pbkdf2.{pbkdf2_of}
use Rattle.ks_machine.specs.Derivations.{Derivation}
use Rattle.ks_ring.specs.Rings.{same_key}
use Rattle.ks_ring.specs.declared.held_key.HeldKey.{HeldKey}
use Rattle.ks_ring.proofs.NumberLemmas.{same_is}
use Rattle.ks_auth.specs.Facts.{is_of, has_opened, is_derived, has_derived}

opened_at : (held : HeldKey) (text : Text) (facts : List Opening) (k : ℕ) (fact : Opening) → k < length facts → fact ≡ get_or facts k fact →
    is_of held text fact ≡ true → has_opened held text (drop k facts) ≡ has_opened held text facts → has_opened held text facts ≡ true
opened_at held text facts k fact within here is so_far =
    sym so_far ∙ ap (has_opened held text) (drop_more facts k fact within)
    ∙ ap (λ first. has_opened held text (first ∷ drop (k + 1) facts)) (sym here) ∙ (rw is refl)

-- a fact of this number, key and text has the answer
same_answer : (held : HeldKey) (text : Text) (fact : Opening) → is_of held text fact ≡ true → open_of fact.key fact.text ≡ open_of held.key text
same_answer held text fact is =
    let parts = and_parts (fact.number == held.number) (same_key fact.key held.key && bytes_eq fact.text text) is in
    let more = and_parts (same_key fact.key held.key) (bytes_eq fact.text text) parts.1 in
    let key_is : fact.key ≡ held.key = same_is fact.key held.key more.0 in
    let text_is : fact.text ≡ text = (bytes_eq-Decides fact.text text).0 more.1 in
    cc

pub answer_is : (held : HeldKey) (text : Text) (facts : List Opening) (k : ℕ) (fact : Opening) → k < length facts → fact ≡ get_or facts k fact →
    is_of held text fact ≡ true → has_opened held text (drop k facts) ≡ has_opened held text facts →
    Some (open_of fact.key fact.text) ≡ (if has_opened held text facts then Some (open_of held.key text) else None)
answer_is held text facts k fact within here is so_far =
    rw (opened_at held text facts k fact within here is so_far) (ap Some (same_answer held text fact is))

derived_at : (password salt : List ℕ) (rounds : ℕ) (facts : List Derivation) (k : ℕ) (fact : Derivation) → k < length facts → fact ≡ get_or facts k fact →
    is_derived password salt rounds fact ≡ true → has_derived password salt rounds (drop k facts) ≡ has_derived password salt rounds facts →
    has_derived password salt rounds facts ≡ true
derived_at password salt rounds facts k fact within here is so_far =
    sym so_far ∙ ap (has_derived password salt rounds) (drop_more facts k fact within)
    ∙ ap (λ first. has_derived password salt rounds (first ∷ drop (k + 1) facts)) (sym here) ∙ (rw is refl)

-- a derivation from this password, salt and count has the digest
same_digest : (password salt : List ℕ) (rounds : ℕ) (fact : Derivation) → is_derived password salt rounds fact ≡ true →
    pbkdf2_of fact.password fact.salt fact.rounds ≡ pbkdf2_of password salt rounds
same_digest password salt rounds fact is =
    let parts = and_parts (bytes_eq fact.password password) (bytes_eq fact.salt salt && fact.rounds == rounds) is in
    let more = and_parts (bytes_eq fact.salt salt) (fact.rounds == rounds) parts.1 in
    let password_is : fact.password ≡ password = (bytes_eq-Decides fact.password password).0 parts.0 in
    let salt_is : fact.salt ≡ salt = (bytes_eq-Decides fact.salt salt).0 more.0 in
    let rounds_is : fact.rounds ≡ rounds = grind (arith, nat_tests, more.1) in
    cc

pub digest_is : (password salt : List ℕ) (rounds : ℕ) (facts : List Derivation) (k : ℕ) (fact : Derivation) → k < length facts → fact ≡ get_or facts k fact →
    is_derived password salt rounds fact ≡ true → has_derived password salt rounds (drop k facts) ≡ has_derived password salt rounds facts →
    Some (pbkdf2_of fact.password fact.salt fact.rounds) ≡ (if has_derived password salt rounds facts then Some (pbkdf2_of password salt rounds) else None)
digest_is password salt rounds facts k fact within here is so_far =
    rw (derived_at password salt rounds facts k fact within here is so_far) (ap Some (same_digest password salt rounds fact is))
