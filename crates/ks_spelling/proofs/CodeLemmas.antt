-- What the code of the spellings meets at its exits, over plain values.
use Rattle.std.proofs.Common.{◌≡◌, ℕ, zero, suc, ◌≤◌, Bool, true, false, cond, List, [], ◌∷◌, ◌++◌, length, Option, Some, None, Result, Ok, Err, refl, sym, ap, subst, ◌∙◌, append_assoc, arith}
use Rattle.std.specs.Prelude.{OnOk, is_ok, option_and_then}
use Rattle.std.specs.Str.{IsUtf8, is_utf8}
use Rattle.std.proofs.lemmas.List.{append-nil}
use Rattle.std.proofs.lemmas.Str.{is_utf8-from_IsUtf8, IsUtf8-from_is_utf8}
use Rattle.ks_base.specs.Ids.{is_id}
use Rattle.ks_base.specs.declared.id.IdFault.{IdFault}
use Rattle.ks_spelling.specs.Codes.{IsBytes, Code, IsSpelling, Writes}
use Rattle.ks_spelling.specs.Readings.{same_some}
use Rattle.ks_spelling.specs.Leaves.{cut, read_byte, counted, read_counted, number32}
use Rattle.ks_spelling.specs.Wholes.{both, passed}
use Rattle.ks_spelling.specs.Variants.{Variant, read_at, read_one_of}
use Rattle.ks_spelling.specs.Values.{id_code, text_code}

-- ---- all of the bytes

-- bytes that are a spelling are read whole
pub read_whole : {A : Type 0} (code : Code A) (bytes : List ℕ) (x : A) → IsSpelling code bytes x → code.read bytes ≡ Some (x, [])
read_whole code bytes x is = ap code.read (is.1 ∙ sym (append-nil (code.spell x))) ∙ code.again x [] is.0

pub one_value : {A : Type 0} (code : Code A) (bytes : List ℕ) (x y : A) → IsSpelling code bytes x → IsSpelling code bytes y → x ≡ y
one_value {A} code bytes x y one other =
    ap (λ (p : A × List ℕ). p.0) (same_some (x, []) (y, []) (sym (read_whole code bytes x one) ∙ read_whole code bytes y other))

pub spelled_whole : {A : Type 0} (code : Code A) (bytes cursor : List ℕ) (x : A) (rest : List ℕ) → IsBytes bytes → cursor ≡ bytes → code.read cursor ≡ Some (x, rest) → rest ≡ [] →
    IsSpelling code bytes x
spelled_whole code bytes cursor x rest is same read none =
    let t = code.takes bytes x rest is (ap code.read (sym same) ∙ read) in
    (t.0, t.1 ∙ ap (λ (xs : List ℕ). code.spell x ++ xs) none ∙ append-nil (code.spell x))

pub not_spelled : {A : Type 0} (code : Code A) (bytes cursor : List ℕ) → cursor ≡ bytes → code.read cursor ≡ None → (x : A) → IsSpelling code bytes x → ⊥
not_spelled {A} code bytes cursor same none x is = no_some (x, []) (sym (read_whole code bytes x is) ∙ ap code.read (sym same) ∙ none)
  where
    no_some : (p : A × List ℕ) → Some p ≡ None → ⊥
    no_some p h = cc

pub not_whole : {A : Type 0} (code : Code A) (bytes cursor : List ℕ) (y : A) (rest : List ℕ) → cursor ≡ bytes → code.read cursor ≡ Some (y, rest) → (rest ≡ [] → ⊥) → (x : A) → IsSpelling code bytes x → ⊥
not_whole {A} code bytes cursor y rest same read left x is =
    left (ap (λ (p : A × List ℕ). p.1) (same_some (y, rest) (x, []) (sym read ∙ ap code.read same ∙ read_whole code bytes x is)))

pub not_both : (b : Bool) → b ≡ true → b ≡ false → ⊥
not_both b one other = cc

-- ---- fields

-- a last part behind a first
pub writes_last : {T E A B : Type 0} (r : Result T E) (first : Code A) (second : Code B) (x : A) (y : B) (old mid new : List ℕ) → Writes first x old mid →
    OnOk r (Writes second y mid new) → OnOk r (Writes (both first second) (x, y) old new)
writes_last (Ok t) first second x y old mid new front back =
    ((front.0, back.0), back.1 ∙ ap (λ (xs : List ℕ). xs ++ second.spell y) front.1 ∙ append_assoc old (first.spell x) (second.spell y))
writes_last (Err e) first second x y old mid new front back = tt

-- ---- variants

read_past : {A : Type 0} (table : List (Variant A)) (place : ℕ) (bytes : List ℕ) → length table ≤ place → read_at table place bytes ≡ None
read_past [] place bytes past = refl
read_past (v ∷ vs) zero bytes past = absurd (omega (arith, past))
read_past (v ∷ vs) (suc place) bytes past = read_past vs place bytes (omega (arith, past))

-- a byte past the places of an enum begins no spelling of it
pub no_variant : {A : Type 0} (table : List (Variant A)) (old : List ℕ) (place : ℕ) (rest : List ℕ) → read_byte old ≡ Some (place, rest) → length table ≤ place → read_one_of table old ≡ None
no_variant table [] place rest read past = absurd cc
no_variant table (b ∷ old) place rest read past =
    let at : b ≡ place = ap (λ (p : ℕ × List ℕ). p.0) (same_some (b, old) (place, rest) read) in
    subst (λ (k : ℕ). read_at table k old ≡ None) (sym at) (read_past table place old past)

-- ---- ids

-- bytes that are refused as an id spell none
pub id_refused : (old : List ℕ) (len n : ℕ) (mid front rest : List ℕ) (r : Result (List ℕ) IdFault) (e : IdFault) → read_byte old ≡ Some (len, mid) → n ≡ len →
    cut n mid ≡ Some (front, rest) → is_ok r ≡ is_id front → r ≡ Err e → id_code.read old ≡ None
unfolding id_code
id_refused old len n mid front rest r e first same run test refused =
    let at_len : cut len mid ≡ Some (front, rest) = ap (λ (k : ℕ). cut k mid) (sym same) ∙ run in
    let refusal : is_id front ≡ false = sym test ∙ ap is_ok refused in
    ap (option_and_then (passed is_id)) (ap (option_and_then (λ (n : ℕ × List ℕ). cut n.0 n.1)) first ∙ at_len)
    ∙ ap (λ (t : Bool). cond {A = Option (List ℕ × List ℕ)} t (Some (front, rest)) None) refusal

-- ---- texts

pub text_written : {T E : Type 0} (r : Result T E) (text bytes old new : List ℕ) → bytes ≡ text → IsUtf8 text → OnOk r (Writes (counted number32) bytes old new) →
    OnOk r (Writes text_code text old new)
unfolding text_code
text_written (Ok x) text bytes old new same utf8 wrote =
    let at : Writes (counted number32) text old new = subst (λ (xs : List ℕ). Writes (counted number32) xs old new) same wrote in
    ((at.0, is_utf8-from_IsUtf8 text utf8), at.1)
text_written (Err e) text bytes old new same utf8 wrote = tt

pub text_found : (old bytes rest text : List ℕ) → read_counted number32 old ≡ Some (bytes, rest) → text ≡ bytes → IsUtf8 bytes → text_code.read old ≡ Some (text, rest)
unfolding text_code
text_found old bytes rest text taken same utf8 =
    ap (option_and_then (passed is_utf8)) taken
    ∙ ap (λ (t : Bool). cond {A = Option (List ℕ × List ℕ)} t (Some (bytes, rest)) None) (is_utf8-from_IsUtf8 bytes utf8)
    ∙ ap (λ (xs : List ℕ). Some (xs, rest)) (sym same)

pub text_missing : (old bytes rest : List ℕ) → read_counted number32 old ≡ Some (bytes, rest) → ¬ IsUtf8 bytes → text_code.read old ≡ None
unfolding text_code
text_missing old bytes rest taken not_utf8 =
    ap (option_and_then (passed is_utf8)) taken
    ∙ ap (λ (t : Bool). cond {A = Option (List ℕ × List ℕ)} t (Some (bytes, rest)) None) (not_passed (is_utf8 bytes) (λ passes. not_utf8 (IsUtf8-from_is_utf8 bytes passes)))
  where
    not_passed : (b : Bool) → (b ≡ true → ⊥) → b ≡ false
    not_passed true h = absurd (h refl)
    not_passed false h = refl
