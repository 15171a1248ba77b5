-- The text of a record says the record.
use Rattle.std.proofs.Common.{◌≡◌, ℕ, zero, suc, ◌+◌, ◌*◌, ◌/◌, ◌%◌, ◌<◌, ◌≤◌, ◌==◌, Bool, true, false, not, List, [], ◌∷◌, ◌++◌, length, drop, get_or, Option, Some, None, Ok, refl, sym, ap, ap₂, ◌∙◌, arith, lt-ltb, append-nil, length-append}
use Rattle.std.specs.Borrow.{Bor}
use Rattle.std.specs.Prelude.{MatchOption, decimal, nat_lt, option_and_then, option_map, replicate, slice_index}
use Rattle.std.specs.Char.{digit_value}
use Rattle.std.specs.List.{after_first, before_first, list_all, position_or_len}
use Rattle.std.specs.Result.{result_ok}
use Rattle.std.specs.Str.Parse.{AllDigits, IsNumeral, digits_value, without_leading_plus}
use Rattle.std.proofs.lemmas.Bool.{and_parts, eq-eqb, eqb-true}
use Rattle.std.proofs.lemmas.Bool.Decides.{nat_tests}
use Rattle.std.proofs.lemmas.Fmt.{decimal_is_IsNumeral}
use Rattle.std.proofs.lemmas.List.{take_at}
use Rattle.std.proofs.lemmas.Slice.Eq.{bytes_eq-Decides}
use Rattle.base64.specs.Engines.{standard}
use Rattle.base64.specs.GeneralPurpose.{IsBytes, decoded_of, encode_of, engine_symbols}
use Rattle.base64.specs.Rfc4648.{encode_symbols, padding_len}
use Rattle.base64.proofs.EngineFacts.{decode_of-encode_of}
use Rattle.ks_base.specs.declared.users.PasswordRow.{PasswordRow}
use Rattle.ks_written.specs.Records.{IsRow, RecordsAreRead, bytes_in, counted_in, cut, is_dollar, record_in, record_text, rounds_in, salted_in, scheme, sized}
use Rattle.ks_words.proofs.NumberLemmas.{read_between}

-- cutting at a dollar sign

same_test : (m n : ℕ) → m ≡ n → nat_lt m n ≡ false
same_test m n same = grind (arith, nat_tests)

pub cut_said : (text : List ℕ) (r : Option (Bor (List ℕ) × Bor (List ℕ)))
    → MatchOption r (position_or_len is_dollar text ≡ length text)
    (λ x. (position_or_len is_dollar text < length text) × (x.0.now ≡ before_first is_dollar text) × (x.1.now ≡ after_first is_dollar text))
    → option_map (λ parts. (parts.0.now, parts.1.now)) r ≡ cut text
unfolding cut
cut_said text None none = rw (same_test (position_or_len is_dollar text) (length text) none) refl
cut_said text (Some x) some = rw (lt-ltb (position_or_len is_dollar text) (length text) some.0) (ap₂ (λ a b. Some (a, b)) some.1 some.2)

abbrev HasNone : List ℕ → Type 0
HasNone text = list_all (λ b. not (is_dollar b)) text ≡ true

first_dollar : (front rest : List ℕ) → HasNone front → position_or_len is_dollar (front ++ 36 ∷ rest) ≡ length front
first_dollar [] rest none = refl
first_dollar (b ∷ front) rest none =
    let both = and_parts (not (is_dollar b)) (list_all (λ c. not (is_dollar c)) front) none in
    let more = first_dollar front rest both.1 in
    rw both.0 (omega (arith, more))

is_before : (front rest : List ℕ) → nat_lt (length front) (length (front ++ 36 ∷ rest)) ≡ true
is_before front rest = let long = length-append front (36 ∷ rest) in lt-ltb (length front) (length (front ++ 36 ∷ rest)) (omega arith)

drop_one_more : (front rest : List ℕ) → drop (length front + 1) (front ++ 36 ∷ rest) ≡ rest
drop_one_more [] rest = refl
drop_one_more (b ∷ front) rest =
    let one : length (b ∷ front) + 1 ≡ suc (length front + 1) = omega arith in
    rw one (drop_one_more front rest)

cut_is : (front rest : List ℕ) → HasNone front → cut (front ++ 36 ∷ rest) ≡ Some (front, rest)
unfolding cut
cut_is front rest none =
    rw (first_dollar front rest none, is_before front rest, take_at front (36 ∷ rest) (length front) refl, drop_one_more front rest) refl

-- the rounds

digit_is : (c : ℕ) (t : Bool) → is_dollar c ≡ t → digit_value c < 10 → not t ≡ true
digit_is c true is digit =
    let same : c ≡ 36 = eqb-true c 36 is in
    let value : digit_value c ≡ 36 = ap digit_value same in
    absurd (omega arith)
digit_is c false is digit = refl

digits_none : (ds : List ℕ) → AllDigits 10 ds → HasNone ds
digits_none [] all = refl
digits_none (c ∷ ds) all = rw (digit_is c (is_dollar c) refl all.0, digits_none ds all.1) refl

plus_is : (c : ℕ) (t : Bool) → (c == 43) ≡ t → digit_value c < 10 → t ≡ false
plus_is c true is digit =
    let same : c ≡ 43 = eqb-true c 43 is in
    let value : digit_value c ≡ 36 = ap digit_value same in
    absurd (omega arith)
plus_is c false is digit = refl

no_plus : (ds : List ℕ) → AllDigits 10 ds → without_leading_plus ds ≡ ds
no_plus [] all = refl
no_plus (c ∷ ds) all = rw (plus_is c (c == 43) refl all.0) refl

rounds_are : (n : ℕ) → 1 ≤ n → n ≤ 100000 → rounds_in (decimal n) ≡ Some n
unfolding rounds_in
rounds_are n from to =
    let numeral = decimal_is_IsNumeral n (omega (arith, to)) in
    let plain = no_plus (decimal n) numeral.0.1 in
    let is : IsNumeral 10 (without_leading_plus (decimal n)) = rw plain numeral.0 in
    let value : n ≡ digits_value 10 (without_leading_plus (decimal n)) = rw plain (sym numeral.1) in
    let read = read_between 1 100000 n (decimal n) is value from to in
    let same = (bytes_eq-Decides (decimal n) (decimal n)).1 refl in
    rw (sym read, same) refl

rounds_none : (n : ℕ) → n ≤ 100000 → HasNone (decimal n)
rounds_none n to = digits_none (decimal n) (decimal_is_IsNumeral n (omega (arith, to))).0.1

-- what base64 writes

abbrev symbols : List ℕ
symbols = engine_symbols standard

passes_at : (p : ℕ → Bool) (xs : List ℕ) → list_all p xs ≡ true → p 0 ≡ true → (v : ℕ) → p (get_or xs v 0) ≡ true
passes_at p [] all zeroth v = zeroth
passes_at p (x ∷ xs) all zeroth zero = (and_parts (p x) (list_all p xs) all).0
passes_at p (x ∷ xs) all zeroth (suc v) = passes_at p xs (and_parts (p x) (list_all p xs) all).1 zeroth v

symbol_is : (v : ℕ) → not (is_dollar (slice_index symbols v)) ≡ true
symbol_is v = passes_at (λ b. not (is_dollar b)) symbols refl refl v

both_pass : (xs ys : List ℕ) → HasNone xs → HasNone ys → HasNone (xs ++ ys)
both_pass [] ys one other = other
both_pass (x ∷ xs) ys one other =
    let both = and_parts (not (is_dollar x)) (list_all (λ b. not (is_dollar b)) xs) one in
    rw (both.0, both_pass xs ys both.1 other) refl

symbols_none : (m : List ℕ) → HasNone (encode_symbols symbols m)
unfolding encode_symbols
symbols_none [] = refl
symbols_none (a ∷ []) = rw (symbol_is (a / 4), symbol_is (a % 4 * 16)) refl
symbols_none (a ∷ b ∷ []) = rw (symbol_is (a / 4), symbol_is (a % 4 * 16 + b / 16), symbol_is (b % 16 * 4)) refl
symbols_none (a ∷ b ∷ c ∷ rest) =
    rw (symbol_is (a / 4), symbol_is (a % 4 * 16 + b / 16), symbol_is (b % 16 * 4 + c / 64), symbol_is (c % 64), symbols_none rest) refl

padding_none : (n : ℕ) → HasNone (replicate n 61)
padding_none zero = refl
padding_none (suc n) = padding_none n

encoded_none : (m : List ℕ) → HasNone (encode_of standard m)
encoded_none m = both_pass (encode_symbols symbols m) (replicate (padding_len (length m)) 61) (symbols_none m) (padding_none (padding_len (length m)))

bytes_are : (count : ℕ) (m : List ℕ) → length m ≡ count → IsBytes m → bytes_in count (encode_of standard m) ≡ Some m
unfolding bytes_in decoded_of
bytes_are count m long bytes =
    ap (λ r. option_and_then (sized count) (result_ok r)) (decode_of-encode_of standard m refl bytes) ∙ rw (eq-eqb (length m) count long) refl

-- the whole

salted_is : (row : PasswordRow) → IsRow row → salted_in row.rounds (encode_of standard row.salt ++ 36 ∷ encode_of standard row.digest) ≡ Ok row
unfolding salted_in
salted_is row is =
    rw (
      cut_is (encode_of standard row.salt) (encode_of standard row.digest) (encoded_none row.salt),
      bytes_are 16 row.salt is.salt_long is.salt_bytes,
      bytes_are 32 row.digest is.digest_long is.digest_bytes,
    ) refl

counted_is : (row : PasswordRow) → IsRow row
    → counted_in (decimal row.rounds ++ 36 ∷ (encode_of standard row.salt ++ 36 ∷ encode_of standard row.digest)) ≡ Ok row
unfolding counted_in
counted_is row is =
    rw (
      cut_is (decimal row.rounds) (encode_of standard row.salt ++ 36 ∷ encode_of standard row.digest) (rounds_none row.rounds is.rounds.1),
      rounds_are row.rounds is.rounds.0 is.rounds.1,
    ) (salted_is row is)

text_is : (row : PasswordRow) → record_text row ≡ scheme ++ 36 ∷ (decimal row.rounds ++ 36 ∷ (encode_of standard row.salt ++ 36 ∷ encode_of standard row.digest))
unfolding record_text
text_is row = ap (λ digest. scheme ++ 36 ∷ (decimal row.rounds ++ 36 ∷ (encode_of standard row.salt ++ 36 ∷ digest))) (append-nil (encode_of standard row.digest))

pub records_are_read : RecordsAreRead
unfolding record_in
records_are_read row is =
    rw (text_is row, cut_is scheme (decimal row.rounds ++ 36 ∷ (encode_of standard row.salt ++ 36 ∷ encode_of standard row.digest)) refl) (counted_is row is)
