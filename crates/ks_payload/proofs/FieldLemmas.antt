-- Each reader of a field: what it takes spells what it gives, and it takes each spelling.
use Rattle.std.proofs.Common.{◌≡◌, ℕ, zero, suc, ◌<◌, ◌≤◌, Bool, true, false, not, ◌&&◌, nat_le, nat_lt, cond, List, [], ◌∷◌, ◌++◌, length, take, drop, Option, Some, None, unwrap_or, refl, sym, ap, ◌∙◌, arith, append_assoc, length-append, inl, inr, ◌⊎◌}
use Rattle.std.specs.Prelude.{option_and_then, option_map, is_some, IfSome}
use Rattle.std.proofs.Math.Seq.{take-append_seam, drop-append_seam}
use Rattle.std.proofs.lemmas.List.{take-append-drop, length-take-le}
use Rattle.std.proofs.lemmas.Bool.{and_parts, and_from}
use Rattle.std.proofs.lemmas.Bool.Decides.{nat_tests}
use Rattle.std.proofs.lemmas.Option.{cond_some}
use Rattle.std.specs.List.{list_all}
use Rattle.hex.specs.Hex.{IsBytes, encode_lower}
use Rattle.ks_base.specs.Ids.{IsId, is_id_byte}
use Rattle.ks_payload.specs.IdFields.{is_hex_id, bytes_of_digits, id_field}
use Rattle.ks_payload.specs.Payloads.{field_if_any, IsSixteenBytes}
use Rattle.ks_payload.specs.Laws.{IsIdField}
use Rattle.ks_payload.specs.Readings.{take_number, take_bytes, take_plain_id, take_hex_id, take_id, take_if}
use Rattle.ks_payload.proofs.HexLemmas.{is_hex_id_of_bytes, bytes_of_encoded, hex_id_bytes, IsId-encoded}

pub bind_some : {A B : Type 0} (o : Option A) (f : A → Option B) (y : B) → option_and_then f o ≡ Some y →
    (x : A) × (o ≡ Some x) × (f x ≡ Some y)
bind_some (Some x) f y h = (x, refl, h)
bind_some None f y h = cc h

-- ---- bytes

pub list_all_bytes : (xs : List ℕ) → IsBytes xs → list_all (λ b. nat_lt b 256) xs ≡ true
list_all_bytes [] h = refl
list_all_bytes (b ∷ rest) h =
    let fits : b < 256 = h 0 in
    and_from (nat_lt b 256) (list_all (λ c. nat_lt c 256) rest) (grind (arith, nat_tests)) (list_all_bytes rest (λ k. h (suc k)))

pub bytes_from_list_all : (xs : List ℕ) → list_all (λ b. nat_lt b 256) xs ≡ true → IsBytes xs
bytes_from_list_all [] h = λ k. omega arith
bytes_from_list_all (b ∷ rest) h =
    let p = and_parts (nat_lt b 256) (list_all (λ c. nat_lt c 256) rest) h in
    let fits : b < 256 = grind (arith, nat_tests, p.0) in
    cons_bytes b rest fits (bytes_from_list_all rest p.1)
  where
    cons_bytes : (b : ℕ) (rest : List ℕ) → b < 256 → IsBytes rest → IsBytes (b ∷ rest)
    cons_bytes b rest h hs zero = h
    cons_bytes b rest h hs (suc i) = hs i

pub taken_number : (least most : ℕ) (xs : List ℕ) (f : ℕ × List ℕ) → take_number least most xs ≡ Some f →
    (least ≤ f.0) × (f.0 ≤ most) × (xs ≡ f.0 ∷ f.1)
unfolding take_number
taken_number least most [] f h = cc h
taken_number least most (b ∷ rest) f h =
    let p = cond_some (nat_le least b && nat_le b most) (b, rest) f h in
    let q = and_parts (nat_le least b) (nat_le b most) p.0 in
    rw (← p.1) (grind (arith, nat_tests, q.0), grind (arith, nat_tests, q.1), refl)

pub takes_number : (least most b : ℕ) (rest : List ℕ) → least ≤ b → b ≤ most → take_number least most (b ∷ rest) ≡ Some (b, rest)
unfolding take_number
takes_number least most b rest low high =
    let e : (nat_le least b && nat_le b most) ≡ true = and_from (nat_le least b) (nat_le b most) (grind (arith, nat_tests)) (grind (arith, nat_tests)) in
    rw e refl

pub taken_bytes : (n : ℕ) (xs : List ℕ) (f : List ℕ × List ℕ) → take_bytes n xs ≡ Some f →
    (length f.0 ≡ n) × IsBytes f.0 × (xs ≡ f.0 ++ f.1)
unfolding take_bytes
taken_bytes n xs f h =
    let p = cond_some (nat_le n (length xs) && list_all (λ b. nat_lt b 256) (take n xs)) (take n xs, drop n xs) f h in
    let q = and_parts (nat_le n (length xs)) (list_all (λ b. nat_lt b 256) (take n xs)) p.0 in
    let long : n ≤ length xs = grind (arith, nat_tests, q.0) in
    rw (← p.1) (length-take-le n xs long, bytes_from_list_all (take n xs) q.1, sym (take-append-drop n xs))

-- n items in front of others are taken where their tests pass
take_test : (n : ℕ) (t : List ℕ → Bool) (b rest : List ℕ) → length b ≡ n → t b ≡ true →
    cond {A = Option (List ℕ × List ℕ)} (nat_le n (length (b ++ rest)) && t (take n (b ++ rest))) (Some (take n (b ++ rest), drop n (b ++ rest))) None ≡ Some (b, rest)
take_test n t b rest len passes =
    let front : take n (b ++ rest) ≡ b = ap (λ m. take m (b ++ rest)) (sym len) ∙ take-append_seam b rest in
    let back : drop n (b ++ rest) ≡ rest = ap (λ m. drop m (b ++ rest)) (sym len) ∙ drop-append_seam b rest in
    let long : nat_le n (length (b ++ rest)) ≡ true = enough n (length (b ++ rest)) (omega (arith, length-append b rest)) in
    rw (front, back, long, passes) refl
  where
    enough : (m n : ℕ) → m ≤ n → nat_le m n ≡ true
    enough m n h = grind (arith, nat_tests)

pub takes_bytes : (n : ℕ) (b rest : List ℕ) → length b ≡ n → IsBytes b → take_bytes n (b ++ rest) ≡ Some (b, rest)
unfolding take_bytes
takes_bytes n b rest len fits = take_test n (λ xs. list_all (λ c. nat_lt c 256) xs) b rest len (list_all_bytes b fits)

-- ---- ids

abbrev pub plain_test : ℕ → List ℕ → Bool
plain_test n id = nat_lt 0 n && (nat_le n 64 && (list_all is_id_byte id && not (is_hex_id id)))

pub plain_test_parts : (n : ℕ) (id : List ℕ) → plain_test n id ≡ true → (0 < n) × (n ≤ 64) × (list_all is_id_byte id ≡ true) × (is_hex_id id ≡ false)
plain_test_parts n id h =
    let p = and_parts (nat_lt 0 n) (nat_le n 64 && (list_all is_id_byte id && not (is_hex_id id))) h in
    let q = and_parts (nat_le n 64) (list_all is_id_byte id && not (is_hex_id id)) p.1 in
    let r = and_parts (list_all is_id_byte id) (not (is_hex_id id)) q.1 in
    (grind (arith, nat_tests, p.0), grind (arith, nat_tests, q.0), r.0, not_true (is_hex_id id) r.1)
  where
    not_true : (b : Bool) → not b ≡ true → b ≡ false
    not_true true h = cc h
    not_true false h = refl

plain_test_from : (id : List ℕ) → IsId id → is_hex_id id ≡ false → plain_test (length id) id ≡ true
plain_test_from id is plain =
    and_from (nat_lt 0 (length id)) _ (some_item (length id) is.0)
    (and_from (nat_le (length id) 64) _ (few_items (length id) is.1) (and_from (list_all is_id_byte id) (not (is_hex_id id)) is.2 (rw plain refl)))
  where
    some_item : (n : ℕ) → 0 < n → nat_lt 0 n ≡ true
    some_item n h = grind (arith, nat_tests)

    few_items : (n : ℕ) → n ≤ 64 → nat_le n 64 ≡ true
    few_items n h = grind (arith, nat_tests)

pub id_field_of_hex : (id : List ℕ) → is_hex_id id ≡ true → id_field id ≡ 0 ∷ bytes_of_digits id
unfolding id_field
id_field_of_hex id h = rw h refl

pub id_field_of_plain : (id : List ℕ) → is_hex_id id ≡ false → id_field id ≡ length id ∷ id
unfolding id_field
id_field_of_plain id h = rw h refl

pub taken_plain_id : (n : ℕ) (xs : List ℕ) (f : List ℕ × List ℕ) → take_plain_id n xs ≡ Some f →
    IsId f.0 × (0 < n) × (n ∷ xs ≡ id_field f.0 ++ f.1)
unfolding take_plain_id
taken_plain_id n xs f h =
    let p = cond_some (nat_le n (length xs) && plain_test n (take n xs)) (take n xs, drop n xs) f h in
    let q = and_parts (nat_le n (length xs)) (plain_test n (take n xs)) p.0 in
    let r = plain_test_parts n (take n xs) q.1 in
    let long : n ≤ length xs = grind (arith, nat_tests, q.0) in
    let len = length-take-le n xs long in
    rw (← p.1) (
      (omega (arith, len, r.0), omega (arith, len, r.1), r.2),
      r.0,
      rw (id_field_of_plain (take n xs) r.3, len) (ap (λ ys. n ∷ ys) (sym (take-append-drop n xs))),
    )

taken_hex_id : (xs : List ℕ) (f : List ℕ × List ℕ) → take_hex_id xs ≡ Some f → IsId f.0 × (0 ∷ xs ≡ id_field f.0 ++ f.1)
unfolding take_hex_id
taken_hex_id xs f h =
    let b = bind_some (take_bytes 16 xs) (λ packed. Some (encode_lower packed.0, packed.1)) f h in
    let t = taken_bytes 16 xs b.0 b.1 in
    let same : (encode_lower b.0.0, b.0.1) ≡ f = ap (λ o. unwrap_or o f) b.2 in
    rw (← same) (
      IsId-encoded b.0.0 t.0 t.1,
      rw (id_field_of_hex (encode_lower b.0.0) (is_hex_id_of_bytes b.0.0 t.0 t.1), bytes_of_encoded b.0.0 t.1) (ap (λ ys. 0 ∷ ys) t.2),
    )

pub taken_id : (xs : List ℕ) (f : List ℕ × List ℕ) → take_id xs ≡ Some f → IsId f.0 × (xs ≡ id_field f.0 ++ f.1)
unfolding take_id
taken_id [] f h = cc h
taken_id (zero ∷ xs) f h = taken_hex_id xs f h
taken_id (suc n ∷ xs) f h = let t = taken_plain_id (suc n) xs f h in (t.0, t.2)

takes_hex_id : (b id rest : List ℕ) → length b ≡ 16 → IsBytes b → encode_lower b ≡ id → take_hex_id (b ++ rest) ≡ Some (id, rest)
unfolding take_hex_id
takes_hex_id b id rest len fits e = rw (takes_bytes 16 b rest len fits, e) refl

pub takes_plain_id : (id rest : List ℕ) → IsId id → is_hex_id id ≡ false → take_plain_id (length id) (id ++ rest) ≡ Some (id, rest)
unfolding take_plain_id
takes_plain_id id rest is plain = take_test (length id) (plain_test (length id)) id rest refl (plain_test_from id is plain)

take_id_plain : (n : ℕ) (xs : List ℕ) → 0 < n → take_id (n ∷ xs) ≡ take_plain_id n xs
unfolding take_id
take_id_plain zero xs h = absurd (omega arith)
take_id_plain (suc n) xs h = refl

take_id_hex : (xs : List ℕ) → take_id (0 ∷ xs) ≡ take_hex_id xs
unfolding take_id
take_id_hex xs = refl

cases_hex : (id : List ℕ) → (is_hex_id id ≡ true) ⊎ (is_hex_id id ≡ false)
cases_hex id = cases_bool (is_hex_id id)
  where
    cases_bool : (b : Bool) → (b ≡ true) ⊎ (b ≡ false)
    cases_bool true = inl refl
    cases_bool false = inr refl

pub takes_id : (id rest : List ℕ) → IsId id → take_id (id_field id ++ rest) ≡ Some (id, rest)
takes_id id rest is =
    elim (cases_hex id) [
      | inl hex ↦
          let b = hex_id_bytes id hex in
          ap (λ field. take_id (field ++ rest)) (id_field_of_hex id hex) ∙ (take_id_hex (bytes_of_digits id ++ rest) ∙ takes_hex_id (bytes_of_digits id) id rest b.1 b.2 b.0)
      | inr plain ↦ ap (λ field. take_id (field ++ rest)) (id_field_of_plain id plain) ∙ (take_id_plain (length id) (id ++ rest) is.0 ∙ takes_plain_id id rest is plain)
    ]

-- ---- fields that may be absent

pub taken_some : (o : Option (List ℕ × List ℕ)) (f : Option (List ℕ) × List ℕ) → option_map (λ found. (Some found.0, found.1)) o ≡ Some f →
    (g : List ℕ × List ℕ) × (o ≡ Some g) × ((Some g.0, g.1) ≡ f)
taken_some (Some g) f h = (g, refl, ap (λ o. unwrap_or o f) h)
taken_some None f h = cc h

pub taken_id_if : (there : Bool) (xs : List ℕ) (f : Option (List ℕ) × List ℕ) → take_if there take_id xs ≡ Some f →
    (is_some f.0 ≡ there) × IfSome f.0 IsId × (xs ≡ field_if_any f.0 ++ f.1)
taken_id_if true xs f h =
    let g = taken_some (take_id xs) f h in
    let t = taken_id xs g.0 g.1 in
    rw (← g.2) (refl, t.0, t.1)
taken_id_if false xs f h =
    let same : (None, xs) ≡ f = ap (λ o. unwrap_or o f) h in
    rw (← same) (refl, tt, refl)

pub takes_id_if : (there : Bool) (o : Option (List ℕ)) (rest : List ℕ) → is_some o ≡ there → IfSome o IsId →
    take_if there take_id (field_if_any o ++ rest) ≡ Some (o, rest)
takes_id_if true (Some id) rest e is = rw (takes_id id rest is) refl
takes_id_if false None rest e is = refl
takes_id_if true None rest e is = cc e
takes_id_if false (Some id) rest e is = cc e

abbrev pub chain_bytes : Option (List ℕ) → List ℕ
chain_bytes (Some id) = id
chain_bytes None = []

pub taken_bytes_if : (there : Bool) (xs : List ℕ) (f : Option (List ℕ) × List ℕ) → take_if there (take_bytes 16) xs ≡ Some f →
    (is_some f.0 ≡ there) × IfSome f.0 IsSixteenBytes × (xs ≡ chain_bytes f.0 ++ f.1)
taken_bytes_if true xs f h =
    let g = taken_some (take_bytes 16 xs) f h in
    let t = taken_bytes 16 xs g.0 g.1 in
    rw (← g.2) (refl, (t.0, t.1), t.2)
taken_bytes_if false xs f h =
    let same : (None, xs) ≡ f = ap (λ o. unwrap_or o f) h in
    rw (← same) (refl, tt, refl)

-- ---- a field that is written

pub hex_pushed : (items id text packed pushed new : List ℕ) → text ≡ id → is_hex_id text ≡ true → packed ≡ bytes_of_digits text →
    pushed ≡ items ++ 0 ∷ [] → new ≡ pushed ++ packed → new ≡ items ++ id_field id
hex_pushed items id text packed pushed new same hex digits e1 e2 =
    let field = id_field_of_hex text hex in
    rw (e2, e1, digits, ← same, field) (append_assoc items (0 ∷ []) (bytes_of_digits text))

pub plain_pushed : (items id text pushed new : List ℕ) → text ≡ id → is_hex_id text ≡ false →
    pushed ≡ items ++ length text ∷ [] → new ≡ pushed ++ text → new ≡ items ++ id_field id
plain_pushed items id text pushed new same plain e1 e2 =
    let field = id_field_of_plain text plain in
    rw (e2, e1, ← same, field) (append_assoc items (length text ∷ []) text)

-- ---- the two cases of an id's field

no_digits : (id : List ℕ) → is_hex_id id ≡ false → (bytes : List ℕ) → IsSixteenBytes bytes → id ≡ encode_lower bytes → ⊥
no_digits id plain bytes sixteen e =
    let hex : is_hex_id id ≡ true = ap (λ text. is_hex_id text) e ∙ is_hex_id_of_bytes bytes sixteen.0 sixteen.1 in
    cc

pub id_field_cases : (field id : List ℕ) → field ≡ id_field id → IsIdField field id
id_field_cases field id e =
    elim (cases_hex id) [
      | inl hex ↦
          let b = hex_id_bytes id hex in
          inl (bytes_of_digits id, (b.1, b.2), sym b.0, e ∙ id_field_of_hex id hex)
      | inr plain ↦ inr (no_digits id plain, e ∙ id_field_of_plain id plain)
    ]

pub id_field_is : (field id : List ℕ) → IsIdField field id → field ≡ id_field id
id_field_is field id (inl w) =
    let field_of : id_field (encode_lower w.0) ≡ 0 ∷ w.0 =
    id_field_of_hex (encode_lower w.0) (is_hex_id_of_bytes w.0 w.1.0 w.1.1) ∙ ap (λ ys. 0 ∷ ys) (bytes_of_encoded w.0 w.1.1) in
    w.3 ∙ sym (ap (λ text. id_field text) w.2 ∙ field_of)
id_field_is field id (inr w) =
    elim (cases_hex id) [
      | inl hex ↦ let b = hex_id_bytes id hex in absurd (w.0 (bytes_of_digits id) (b.1, b.2) (sym b.0))
      | inr plain ↦ w.1 ∙ sym (id_field_of_plain id plain)
    ]
