use Rattle.std.proofs.Common.{◌≡◌, ℕ, ◌+◌, ◌-◌, ◌<◌, ◌≤◌, Bool, true, false, not, ◌&&◌, ◌==◌, cond, nat_lt, List, [], ◌∷◌, ◌++◌, length, take, drop, replicate, Some, None, refl, ap, ◌∙◌, arith, length-append, Ok, Err, sym, get_or}
use Rattle.std.proofs.Math.Seq.{take-append_seam, drop-append_seam}
use Rattle.std.proofs.lemmas.List.{drop-replicate, length-replicate}
use Rattle.std.proofs.lemmas.Bool.{and_parts, and_from, and_left, and_right, not-true, lt-ltb, le-leb, lt-leb}
use Rattle.std.proofs.lemmas.Bool.Decides.{nat_tests}
use Rattle.std.proofs.lemmas.Str.{IsUtf8-from_ascii}
use Rattle.std.proofs.lemmas.Str.Ascii.{IsAscii-nil, IsAscii-cons}
use Rattle.std.proofs.lemmas.List.Folds.{list_all_at}
use Rattle.std.proofs.lemmas.List.Quantifiers.{position-Some}
use Rattle.std.specs.Prelude.{IfOk, Result, is_ok, nat_le}
use Rattle.std.specs.List.{list_all, position, prefix_len}
use Rattle.std.specs.Str.{IsAscii, IsUtf8}
use Rattle.ks_base.specs.Ids.{IsId, is_id_byte, is_id, IsFirstBadByte}
use Rattle.ks_base.specs.declared.id.IdFault.{IdFault}
use Rattle.ks_base.specs.declared.id.IdFault.TheVariants.{Empty, TooLong, Byte}
use Rattle.ks_base.specs.declared.limits.TheConstants.{ID_BYTES}

good_byte : (b : Bool) (m n : ℕ) (t : Bool) → (n ≤ m → t ≡ true) → n + 1 ≤ cond (not (not b)) (1 + m) 0 → (b && t) ≡ true
good_byte true m n t others h = others (omega arith)
good_byte false m n t others h = absurd (omega arith)

all_from_prefix : (p : ℕ → Bool) (xs : List ℕ) → length xs ≤ prefix_len (λ x. not (not (p x))) xs → list_all p xs ≡ true
all_from_prefix p [] h = refl
all_from_prefix p (x ∷ xs) h = good_byte (p x) (prefix_len (λ y. not (not (p y))) xs) (length xs) (list_all p xs) (all_from_prefix p xs) (omega (arith, h))

reaches_end : (m n : ℕ) → cond (nat_lt m n) (Some m) None ≡ None → n ≤ m
reaches_end m n none = grind (arith, nat_tests)

-- where no byte is bad, all are good
pub all_from_no_position : (p : ℕ → Bool) (xs : List ℕ) → position (λ x. not (p x)) xs ≡ None → list_all p xs ≡ true
all_from_no_position p xs none = all_from_prefix p xs (reaches_end _ _ none)

pub some_bytes : (n : ℕ) → false ≡ (n == 0) → 0 < n
some_bytes n h = grind (arith, nat_tests)

-- the fields that hold an id's bytes, with zeros behind them
pub holding_fields : (text front : List ℕ) → IsId text → front ≡ text →
    (length text ≤ 64) × (drop (length text) (front ++ drop (length text) (replicate 64 0)) ≡ replicate (64 - length text) 0)
    × (length (front ++ drop (length text) (replicate 64 0)) ≡ 64) × IsId (take (length text) (front ++ drop (length text) (replicate 64 0)))
holding_fields text front id e =
    let zero : ℕ = 0 in
    let rest = drop-replicate (length text) 64 zero in
    let short = id.1 in
    let long : length (text ++ drop (length text) (replicate 64 zero)) ≡ 64 =
    omega (arith, length-append text (drop (length text) (replicate 64 zero)), ap length rest, length-replicate (64 - length text) zero) in
    rw e (short, drop-append_seam text (drop (length text) (replicate 64 zero)) ∙ rest, long, rw take-append_seam id)

id_byte_is_ascii : (b : ℕ) → is_id_byte b ≡ true → b < 128
id_byte_is_ascii b is = grind (arith, nat_tests)

id_is_ascii : (text : List ℕ) → list_all is_id_byte text ≡ true → IsAscii text
id_is_ascii [] all = IsAscii-nil
id_is_ascii (b ∷ bs) all =
    let parts = and_parts (is_id_byte b) _ all in
    IsAscii-cons b bs (id_byte_is_ascii b parts.0) (id_is_ascii bs parts.1)

-- an id is ASCII, and so it is a text
pub id_is_utf8 : (text : List ℕ) → IsId text → IsUtf8 text
id_is_utf8 text is = IsUtf8-from_ascii text (id_is_ascii text is.2)

-- what is read is an id, and what is refused is none

is_id_true : (text : List ℕ) → IsId text → is_id text ≡ true
is_id_true text id =
    and_from (nat_lt 0 (length text)) (nat_le (length text) ID_BYTES && list_all is_id_byte text) (lt-ltb 0 (length text) id.0)
    (and_from (nat_le (length text) ID_BYTES) (list_all is_id_byte text) (le-leb (length text) ID_BYTES id.1) id.2)

pub is_id_read : (r : Result (List ℕ) IdFault) (text : List ℕ) → IfOk r (λ id. (id ≡ text) × IsId text)
    → (r ≡ Err Empty → text ≡ []) → (r ≡ Err TooLong → ID_BYTES < length text)
    → ((place : ℕ) → r ≡ Err (Byte place) → IsFirstBadByte text place) → is_ok r ≡ is_id text
is_id_read (Ok id) text ok empty long byte = sym (is_id_true text ok.1)
is_id_read (Err Empty) text ok empty long byte = ap (λ t. is_id t) (sym (empty refl))
is_id_read (Err TooLong) text ok empty long byte =
    sym (and_right (nat_lt 0 (length text)) (nat_le (length text) ID_BYTES && list_all is_id_byte text)
    (and_left (nat_le (length text) ID_BYTES) (list_all is_id_byte text) (lt-leb (length text) ID_BYTES (long refl))))
is_id_read (Err (Byte place)) text ok empty long byte =
    let at = position-Some (λ b. not (is_id_byte b)) text place 0 (byte place refl) in
    let bad = list_all_at is_id_byte text place 0 at.0 (not-true (is_id_byte (get_or text place 0)) at.1) in
    sym (and_right (nat_lt 0 (length text)) (nat_le (length text) ID_BYTES && list_all is_id_byte text)
    (and_right (nat_le (length text) ID_BYTES) (list_all is_id_byte text) bad))
