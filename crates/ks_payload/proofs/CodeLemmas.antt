-- What the readers' code meets at its exits, over plain lists.
use Rattle.std.proofs.Common.{◌≡◌, ℕ, zero, suc, ◌<◌, ◌≤◌, Bool, true, false, not, cond, Option, Result, ◌&&◌, nat_le, nat_lt, List, [], ◌∷◌, ◌++◌, length, take, drop, Some, None, Ok, Err, refl, sym, ap, ◌∙◌, arith}
use Rattle.std.specs.Prelude.{◌↔◌}
use Rattle.std.specs.List.{list_all, position, prefix_len}
use Rattle.std.specs.Int.{w64, from_be_bytes}
use Rattle.std.proofs.lemmas.List.{take-append-drop, length-take-le}
use Rattle.std.proofs.lemmas.Bool.{and_parts}
use Rattle.std.proofs.lemmas.Bool.Decides.{nat_tests}
use Rattle.hex.specs.Hex.{IsBytes, decode_sized}
use Rattle.hex.proofs.HexLemmas.{decode_sized-encode_lower}
use Rattle.ks_base.specs.Ids.{IsId, IsFirstBadByte, is_id_byte}
use Rattle.ks_base.specs.declared.id.IdFault.{IdFault}
use Rattle.ks_base.specs.declared.id.IdFault.TheVariants.{Empty, TooLong, Byte}
use Rattle.ks_payload.specs.IdFields.{is_hex_id, bytes_of_digits}
use Rattle.ks_payload.specs.Payloads.{last_expiry}
use Rattle.ks_payload.specs.Readings.{take_number, take_bytes, take_plain_id, take_expiry}
use Rattle.ks_payload.proofs.HexLemmas.{hex_id_bytes}
use Rattle.ks_payload.proofs.FieldLemmas.{plain_test, plain_test_parts, takes_number, takes_bytes, takes_plain_id}

pub no_number : (least most : ℕ) (xs : List ℕ) → length xs ≡ 0 → take_number least most xs ≡ None
unfolding take_number
no_number least most [] h = refl
no_number least most (b ∷ rest) h = absurd (omega arith)

number_outside : (least most b : ℕ) (rest : List ℕ) → (nat_le least b && nat_le b most) ≡ false → take_number least most (b ∷ rest) ≡ None
unfolding take_number
number_outside least most b rest h = rw h refl

pub number_below : (least most b : ℕ) (rest xs : List ℕ) → xs ≡ b ∷ rest → b < least → take_number least most xs ≡ None
number_below least most b rest xs e low = rw e (number_outside least most b rest (outside least most b low))
  where
    outside : (least most b : ℕ) → b < least → (nat_le least b && nat_le b most) ≡ false
    outside least most b low = grind (arith, nat_tests)

pub number_above : (least most b : ℕ) (rest xs : List ℕ) → xs ≡ b ∷ rest → most < b → take_number least most xs ≡ None
number_above least most b rest xs e high = rw e (number_outside least most b rest (outside least most b high))
  where
    outside : (least most b : ℕ) → most < b → (nat_le least b && nat_le b most) ≡ false
    outside least most b high = grind (arith, nat_tests)

pub number_within : (least most b : ℕ) (rest xs : List ℕ) → xs ≡ b ∷ rest → least ≤ b → b ≤ most → take_number least most xs ≡ Some (b, rest)
number_within least most b rest xs e low high = rw e (takes_number least most b rest low high)

too_short : (n m : ℕ) (t : Bool) → m < n → (nat_le n m && t) ≡ false
too_short n m t h = grind (arith, nat_tests)

pub bytes_short : (n : ℕ) (xs : List ℕ) → length xs < n → take_bytes n xs ≡ None
unfolding take_bytes
bytes_short n xs h = rw (too_short n (length xs) (list_all (λ b. nat_lt b 256) (take n xs)) h) refl

front_bytes : (a b : List ℕ) → IsBytes (a ++ b) → IsBytes a
front_bytes [] b h k = omega arith
front_bytes (x ∷ a) b h zero = h 0
front_bytes (x ∷ a) b h (suc k) = front_bytes a b (λ i. h (suc i)) k

-- a slice cut behind n bytes
pub bytes_cut : (n : ℕ) (xs front back : List ℕ) → IsBytes xs → n ≤ length xs → front ≡ take n xs → back ≡ drop n xs →
    (xs ≡ front ++ back) × (length front ≡ n) × IsBytes front
bytes_cut n xs front back fits long f b =
    rw (f, b) (
      sym (take-append-drop n xs),
      length-take-le n xs long,
      front_bytes (take n xs) (drop n xs) (rw (take-append-drop n xs) fits),
    )

pub bytes_taken : (n : ℕ) (xs front back : List ℕ) → IsBytes xs → n ≤ length xs → front ≡ take n xs → back ≡ drop n xs →
    take_bytes n xs ≡ Some (front, back)
bytes_taken n xs front back fits long f b =
    let cut = bytes_cut n xs front back fits long f b in
    ap (λ ys. take_bytes n ys) cut.0 ∙ takes_bytes n front back cut.1 cut.2

-- ---- ids

all_prefix : (p : ℕ → Bool) (xs : List ℕ) → list_all p xs ≡ true → length xs ≤ prefix_len (λ x. not (not (p x))) xs
all_prefix p [] h = omega arith
all_prefix p (x ∷ xs) h =
    let parts = and_parts (p x) (list_all p xs) h in
    rw parts.0 (omega (arith, all_prefix p xs parts.1))

within : (m n place : ℕ) → cond (nat_lt m n) (Some m) None ≡ Some place → m < n
within m n place h = grind (arith, nat_tests)

no_bad_byte : (p : ℕ → Bool) (text : List ℕ) (place : ℕ) → list_all p text ≡ true → position (λ b. not (p b)) text ≡ Some place → ⊥
no_bad_byte p text place all found = omega (arith, within _ _ place found, all_prefix p text all)

pub not_id : {T : Type 0} (text : List ℕ) (r : Result T IdFault) (fault : IdFault) → r ≡ Err fault →
    ((r ≡ Err Empty) ↔ (text ≡ [])) → ((r ≡ Err TooLong) ↔ (64 < length text)) →
    ((place : ℕ) → r ≡ Err (Byte place) → IsFirstBadByte text place) → IsId text → ⊥
not_id text r Empty h empty long byte is = let none = empty.0 h in omega (arith, is.0, ap (λ xs. length xs) none)
not_id text r TooLong h empty long byte is = omega (arith, long.0 h, is.1)
not_id text r (Byte place) h empty long byte is = no_bad_byte is_id_byte text place is.2 (byte place h)

pub plain_short : (n : ℕ) (xs : List ℕ) → length xs < n → take_plain_id n xs ≡ None
unfolding take_plain_id
plain_short n xs h = rw (too_short n (length xs) _ h) refl

plain_refused : (n : ℕ) (xs : List ℕ) → plain_test n (take n xs) ≡ false → take_plain_id n xs ≡ None
unfolding take_plain_id
plain_refused n xs h = rw (h, and_false (nat_le n (length xs))) refl
  where
    and_false : (b : Bool) → (b && false) ≡ false
    and_false true = refl
    and_false false = refl

-- a text that is no plain id is not taken
pub plain_none : (n : ℕ) (xs front : List ℕ) → n ≤ length xs → front ≡ take n xs → (IsId front → is_hex_id front ≡ false → ⊥) →
    take_plain_id n xs ≡ None
plain_none n xs front long e bad = plain_refused n xs (not_true (plain_test n (take n xs)) (λ passes. bad (is_id passes) (is_plain passes)))
  where
    not_true : (b : Bool) → (b ≡ true → ⊥) → b ≡ false
    not_true true h = absurd (h refl)
    not_true false h = refl

    is_id : plain_test n (take n xs) ≡ true → IsId front
    is_id passes =
        let t = plain_test_parts n (take n xs) passes in
        let len = length-take-le n xs long in
        rw e (omega (arith, len, t.0), omega (arith, len, t.1), t.2)

    is_plain : plain_test n (take n xs) ≡ true → is_hex_id front ≡ false
    is_plain passes = rw e (plain_test_parts n (take n xs) passes).3

pub plain_taken : (n : ℕ) (xs front back : List ℕ) → n ≤ length xs → front ≡ take n xs → back ≡ drop n xs → IsId front → is_hex_id front ≡ false →
    take_plain_id n xs ≡ Some (front, back)
plain_taken n xs front back long f b is plain =
    let len : length front ≡ n = rw f (length-take-le n xs long) in
    let whole : xs ≡ front ++ back = rw (f, b) (sym (take-append-drop n xs)) in
    rw (← len, whole) (takes_plain_id front back is plain)

-- ---- expiry

pub expiry_short : (xs : List ℕ) → length xs < 8 → take_expiry xs ≡ None
unfolding take_expiry
expiry_short xs h = rw (bytes_short 8 xs h) refl

pub expiry_late : (xs field rest : List ℕ) (expires : ℕ) → take_bytes 8 xs ≡ Some (field, rest) → expires ≡ from_be_bytes w64 field → last_expiry < expires →
    take_expiry xs ≡ None
unfolding take_expiry
expiry_late xs field rest expires taken back late = rw taken (refused (from_be_bytes w64 field) expires back late)
  where
    above : (m n : ℕ) → n < m → nat_le m n ≡ false
    above m n h = grind (arith, nat_tests)

    refused : (n expires : ℕ) → expires ≡ n → last_expiry < expires → cond {A = Option (ℕ × List ℕ)} (nat_le n last_expiry) (Some (n, rest)) None ≡ None
    refused n expires e late = rw (← e, above expires last_expiry late) refl

pub expiry_taken : (xs field rest : List ℕ) (expires : ℕ) → take_bytes 8 xs ≡ Some (field, rest) → expires ≡ from_be_bytes w64 field → expires ≤ last_expiry →
    take_expiry xs ≡ Some (expires, rest)
unfolding take_expiry
expiry_taken xs field rest expires taken back low = rw taken (kept (from_be_bytes w64 field) expires back low)
  where
    at_most : (m n : ℕ) → m ≤ n → nat_le m n ≡ true
    at_most m n h = grind (arith, nat_tests)

    kept : (n expires : ℕ) → expires ≡ n → expires ≤ last_expiry → cond {A = Option (ℕ × List ℕ)} (nat_le n last_expiry) (Some (n, rest)) None ≡ Some (expires, rest)
    kept n expires e low = rw (← e, at_most expires last_expiry low) refl

pub decoded : (id : List ℕ) → is_hex_id id ≡ true → decode_sized id 16 ≡ Ok (bytes_of_digits id)
decoded id h =
    let b = hex_id_bytes id h in
    ap (λ text. decode_sized text 16) (sym b.0) ∙ decode_sized-encode_lower (bytes_of_digits id) 16 b.1 b.2
