-- The parts of a token and its bytes.
use Rattle.std.proofs.Common.{◌≡◌, ◌≢◌, ◌↔◌, ℕ, zero, suc, ◌+◌, ◌-◌, ◌%◌, ◌^◌, ◌<◌, ◌≤◌, ◌==◌, nat_lt, true, false, List, ◌∷◌, ◌++◌, length, take, drop, slice_index, refl, sym, ap, ◌∙◌, arith, inl, inr, Some, None}
use Rattle.std.proofs.lemmas.Bool.{cases_Bool, cases_eq, cases_lt, le-leb, lt-leb, eqb-true, ne_eqb, lt-ltb, ltb-true, and_parts}
use Rattle.std.proofs.lemmas.List.{append_assoc, drop-drop, drop-take, drop_at, drop_more, length-append, length-drop, length-take-le, take-append-drop, take-take, take_at}
use Rattle.std.proofs.lemmas.Nat.{be_bytes_8, from_be_bytes-to_be_bytes_8}
use Rattle.std.proofs.lemmas.Option.{same_Some}
use Rattle.std.specs.Int.{w64, to_be_bytes, from_be_bytes}
use Rattle.ks_aes_cbc.specs.Aes.{AreBytes}
use Rattle.ks_aes_cbc.proofs.BlockLemmas.{AreBytes-cons, AreBytes-append}
use Rattle.ks_aes_cbc.proofs.Chains.{AreBytes-take, AreBytes-drop}
use Rattle.ks_fernet.specs.declared.envelope.Envelope.{Envelope}
use Rattle.ks_fernet.specs.Base64Url.{Spells, bytes_of}
use Rattle.ks_fernet.specs.Opening.{signed_bytes}
use Rattle.ks_fernet.specs.Token.{IsToken, IsTokenLength, envelope_in, envelope_of, is_token_length, parts_of, token_bytes}
use Rattle.ks_fernet.proofs.Spelling.{option_cases, read_spelled, spelled_read}

pub AreBytes-to_be_bytes : (n : ℕ) → AreBytes (to_be_bytes w64 n)
AreBytes-to_be_bytes n zero = omega arith
AreBytes-to_be_bytes n (suc zero) = omega arith
AreBytes-to_be_bytes n (suc (suc zero)) = omega arith
AreBytes-to_be_bytes n (suc (suc (suc zero))) = omega arith
AreBytes-to_be_bytes n (suc (suc (suc (suc zero)))) = omega arith
AreBytes-to_be_bytes n (suc (suc (suc (suc (suc zero))))) = omega arith
AreBytes-to_be_bytes n (suc (suc (suc (suc (suc (suc zero)))))) = omega arith
AreBytes-to_be_bytes n (suc (suc (suc (suc (suc (suc (suc zero))))))) = omega arith
AreBytes-to_be_bytes n (suc (suc (suc (suc (suc (suc (suc (suc i)))))))) = omega arith

pub AreBytes-token_bytes : (e : Envelope) → AreBytes e.iv → AreBytes e.ciphertext → AreBytes e.mac → AreBytes (token_bytes e)
AreBytes-token_bytes e iv ciphertext mac =
    AreBytes-cons 0x80 (to_be_bytes w64 e.time ++ (e.iv ++ (e.ciphertext ++ e.mac))) (omega arith)
    (AreBytes-append (to_be_bytes w64 e.time) (e.iv ++ (e.ciphertext ++ e.mac)) (AreBytes-to_be_bytes e.time)
    (AreBytes-append e.iv (e.ciphertext ++ e.mac) iv (AreBytes-append e.ciphertext e.mac ciphertext mac)))

pub length-token_bytes : (e : Envelope) → length e.iv ≡ 16 → length e.mac ≡ 32 → length (token_bytes e) ≡ 57 + length e.ciphertext
length-token_bytes e iv mac =
    omega (arith, length-append e.iv (e.ciphertext ++ e.mac), length-append e.ciphertext e.mac, iv, mac)

abbrev pub made_of : ℕ → List ℕ → List ℕ → List ℕ → Envelope
made_of time iv ciphertext mac = record { time = time; iv = iv; ciphertext = ciphertext; mac = mac }

same_made : (t u : ℕ) (i j c d m n : List ℕ) → t ≡ u → i ≡ j → c ≡ d → m ≡ n → made_of t i c m ≡ made_of u j d n
same_made t u i j c d m n time iv ciphertext mac = rw (time, iv, ciphertext, mac) refl

same_envelope : (a b : Envelope) → a.time ≡ b.time → a.iv ≡ b.iv → a.ciphertext ≡ b.ciphertext → a.mac ≡ b.mac → a ≡ b
same_envelope a b time iv ciphertext mac =
    same_made a.time b.time a.iv b.iv a.ciphertext b.ciphertext a.mac b.mac time iv ciphertext mac

-- the bytes of a token have its parts
pub parts_of-token_bytes : (e : Envelope) → e.time < 2 ^ 64 → length e.iv ≡ 16 → length e.mac ≡ 32 → parts_of (token_bytes e) ≡ e
parts_of-token_bytes e time iv mac =
    let long = length-token_bytes e iv mac in
    let rest : List ℕ = e.ciphertext ++ e.mac in
    let at_time : from_be_bytes w64 (take 8 (drop 1 (token_bytes e))) ≡ e.time = from_be_bytes-to_be_bytes_8 e.time time in
    let at_iv : take 16 (drop 9 (token_bytes e)) ≡ e.iv = take_at e.iv rest 16 iv in
    let after : drop 25 (token_bytes e) ≡ rest = drop_at e.iv rest 16 iv in
    let n : length (token_bytes e) - 57 ≡ length e.ciphertext = omega (arith, long) in
    let at_ciphertext : take (length (token_bytes e) - 57) (drop 25 (token_bytes e)) ≡ e.ciphertext =
    rw (n, after) (take_at e.ciphertext e.mac (length e.ciphertext) refl) in
    let m : length (token_bytes e) - 32 ≡ 25 + length e.ciphertext = omega (arith, long) in
    let at_mac : drop (length (token_bytes e) - 32) (token_bytes e) ≡ e.mac =
    rw (m, ← drop-drop (length e.ciphertext) 25 (token_bytes e), after) (drop_at e.ciphertext e.mac (length e.ciphertext) refl) in
    same_envelope _ e at_time at_iv at_ciphertext at_mac

-- bytes that have the parts of a token are its bytes
pub token_bytes-parts_of : (bytes : List ℕ) → AreBytes bytes → 57 < length bytes → slice_index bytes 0 ≡ 0x80 → token_bytes (parts_of bytes) ≡ bytes
token_bytes-parts_of bytes are long version =
    let first : bytes ≡ slice_index bytes 0 ∷ drop 1 bytes = drop_more bytes 0 0 (omega arith) in
    let after_version : List ℕ = drop 1 bytes in
    let eight : length (take 8 after_version) ≡ 8 = length-take-le 8 after_version (omega (arith, length-drop 1 bytes)) in
    let time : to_be_bytes w64 (from_be_bytes w64 (take 8 after_version)) ≡ take 8 after_version =
    be_bytes_8 (take 8 after_version) _ eight (AreBytes-take 8 after_version (AreBytes-drop 1 bytes are)) refl in
    let after_time : List ℕ = drop 9 bytes in
    let rest : List ℕ = drop 25 bytes in
    let n : length bytes - 32 ≡ 25 + (length bytes - 57) = omega arith in
    let mac : drop (length bytes - 32) bytes ≡ drop (length bytes - 57) rest = rw n (sym (drop-drop (length bytes - 57) 25 bytes)) in
    let whole_rest : take (length bytes - 57) rest ++ drop (length bytes - 32) bytes ≡ rest = rw mac (take-append-drop (length bytes - 57) rest) in
    let whole_iv : take 16 after_time ++ rest ≡ after_time = rw (← drop-drop 16 9 bytes) (take-append-drop 16 after_time) in
    let whole_time : take 8 after_version ++ after_time ≡ after_version = rw (← drop-drop 8 1 bytes) (take-append-drop 8 after_version) in
    let behind : List ℕ = take 16 after_time ++ (take (length bytes - 57) rest ++ drop (length bytes - 32) bytes) in
    let joined : take 8 after_version ++ behind ≡ after_version = rw (whole_rest, whole_iv) whole_time in
    ap (λ (t : List ℕ). 0x80 ∷ (t ++ behind)) time ∙ ap (λ (t : List ℕ). 0x80 ∷ t) joined
    ∙ ap (λ (b : ℕ). b ∷ after_version) (sym version) ∙ sym first

length_test : (n : ℕ) → IsTokenLength n → is_token_length n ≡ true
length_test n h = rw (lt-ltb 57 n h.0, h.1) refl

pub test_length : (n : ℕ) → is_token_length n ≡ true → IsTokenLength n
test_length n h =
    let parts = and_parts (nat_lt 57 n) ((n - 57) % 16 == 0) h in
    (ltb-true 57 n parts.0, eqb-true ((n - 57) % 16) 0 parts.1)

pub other_length : (n : ℕ) → is_token_length n ≡ false → ¬ IsTokenLength n
other_length n h is = cc (sym h ∙ length_test n is)

pub envelope_in_parts : (bytes : List ℕ) → is_token_length (length bytes) ≡ true → slice_index bytes 0 ≡ 0x80 → envelope_in bytes ≡ Some (parts_of bytes)
unfolding envelope_in
envelope_in_parts bytes long version = rw (long, version) refl

pub envelope_in_length : (bytes : List ℕ) → is_token_length (length bytes) ≡ false → envelope_in bytes ≡ None
unfolding envelope_in
envelope_in_length bytes long = rw long refl

pub envelope_in_version : (bytes : List ℕ) → slice_index bytes 0 ≢ 0x80 → envelope_in bytes ≡ None
unfolding envelope_in
envelope_in_version bytes version = elim (cases_Bool (is_token_length (length bytes))) [
  | inl long ↦ rw (long, ne_eqb (slice_index bytes 0) 0x80 version) refl
  | inr short ↦ rw short refl
]

pub in_parts : (bytes : List ℕ) (e : Envelope) → envelope_in bytes ≡ Some e → IsTokenLength (length bytes) × (slice_index bytes 0 ≡ 0x80) × (parts_of bytes ≡ e)
in_parts bytes e found = elim (cases_Bool (is_token_length (length bytes))) [
  | inl long ↦ elim (cases_eq (slice_index bytes 0) 0x80) [
    | inl version ↦ (test_length (length bytes) long, version, same_Some (parts_of bytes) e (sym (envelope_in_parts bytes long version) ∙ found))
    | inr other ↦ cc (sym (envelope_in_version bytes other) ∙ found)
  ]
  | inr short ↦ cc (sym (envelope_in_length bytes short) ∙ found)
]

pub envelope_of_read : (text bytes : List ℕ) → length text ≤ 1024 → bytes_of text ≡ Some bytes → envelope_of text ≡ envelope_in bytes
unfolding envelope_of
envelope_of_read text bytes short read = rw (le-leb (length text) 1024 short, read) refl

pub envelope_of_long : (text : List ℕ) → 1024 < length text → envelope_of text ≡ None
unfolding envelope_of
envelope_of_long text long = rw (lt-leb (length text) 1024 long) refl

pub envelope_of_unread : (text : List ℕ) → bytes_of text ≡ None → envelope_of text ≡ None
unfolding envelope_of
envelope_of_unread text none = elim (cases_lt 1024 (length text)) [
  | inl long ↦ envelope_of_long text long
  | inr short ↦ rw (le-leb (length text) 1024 short, none) refl
]

-- a token is read as its parts
pub envelope_of_token : (text : List ℕ) (e : Envelope) → IsToken text e → envelope_of text ≡ Some e
envelope_of_token text e is =
    let read = read_spelled text (token_bytes e) is.spelled (AreBytes-token_bytes e is.iv_bytes is.ciphertext_bytes is.mac_bytes) in
    let long = length-token_bytes e is.iv_long is.mac_long in
    let n : length (token_bytes e) - 57 ≡ length e.ciphertext = omega (arith, long) in
    let blocks : IsTokenLength (length (token_bytes e)) =
    (omega (arith, long, is.ciphertext_some), ap (λ (k : ℕ). k % 16) n ∙ is.ciphertext_blocks) in
    envelope_of_read text (token_bytes e) is.short read
    ∙ envelope_in_parts (token_bytes e) (length_test (length (token_bytes e)) blocks) refl
    ∙ ap (λ (p : Envelope). Some p) (parts_of-token_bytes e is.time_fits is.iv_long is.mac_long)

number_below : (b : List ℕ) → AreBytes b → from_be_bytes w64 b < 2 ^ 64
number_below b h = omega (arith, h 0, h 1, h 2, h 3, h 4, h 5, h 6, h 7)

-- the parts of as many bytes as a token has, with its version, are a token's
token_parts : (text bytes : List ℕ) → length text ≤ 1024 → Spells text bytes → AreBytes bytes → IsTokenLength (length bytes)
    → slice_index bytes 0 ≡ 0x80 → IsToken text (parts_of bytes)
token_parts text bytes short spelled are long version =
    let c : length (take (length bytes - 57) (drop 25 bytes)) ≡ length bytes - 57 =
    length-take-le (length bytes - 57) (drop 25 bytes) (omega (arith, long.0, length-drop 25 bytes)) in
    record {
      short = short;
      spelled = rw (token_bytes-parts_of bytes are long.0 version) spelled;
      time_fits = number_below (take 8 (drop 1 bytes)) (AreBytes-take 8 (drop 1 bytes) (AreBytes-drop 1 bytes are));
      iv_long = length-take-le 16 (drop 9 bytes) (omega (arith, long.0, length-drop 9 bytes));
      mac_long = length-drop (length bytes - 32) bytes ∙ omega (arith, long.0);
      ciphertext_some = omega (arith, c, long.0);
      ciphertext_blocks = ap (λ (k : ℕ). k % 16) c ∙ long.1;
      iv_bytes = AreBytes-take 16 (drop 9 bytes) (AreBytes-drop 9 bytes are);
      ciphertext_bytes = AreBytes-take (length bytes - 57) (drop 25 bytes) (AreBytes-drop 25 bytes are);
      mac_bytes = AreBytes-drop (length bytes - 32) bytes are;
    }

-- what is read has the parts of a token
pub token_envelope_of : (text : List ℕ) (e : Envelope) → envelope_of text ≡ Some e → IsToken text e
token_envelope_of text e found = elim (cases_lt 1024 (length text)) [
  | inl long ↦ cc (sym (envelope_of_long text long) ∙ found)
  | inr short ↦ elim (option_cases (bytes_of text)) [
    | inl read ↦
        let parts = in_parts read.0 e (sym (envelope_of_read text read.0 short read.1) ∙ found) in
        let spelled = spelled_read text read.0 read.1 in
        rw (← parts.2) (token_parts text read.0 short spelled.0 spelled.1 parts.0 parts.1)
    | inr none ↦ cc (sym (envelope_of_unread text none) ∙ found)
  ]
]

pub envelope_of_iff : (text : List ℕ) (e : Envelope) → (envelope_of text ≡ Some e) ↔ IsToken text e
envelope_of_iff text e = (token_envelope_of text e, envelope_of_token text e)

pub no_envelope_iff : (text : List ℕ) → (envelope_of text ≡ None) ↔ ((e : Envelope) → ¬ IsToken text e)
no_envelope_iff text = (
  λ none e is. cc (sym none ∙ envelope_of_token text e is),
  λ none. elim (option_cases (envelope_of text)) [
    | inl found ↦ absurd (none found.0 (token_envelope_of text found.0 found.1))
    | inr missing ↦ missing
  ],
)

-- a token's bytes are those that the mac is of, and the mac
pub token_bytes-signed : (e : Envelope) → token_bytes e ≡ signed_bytes e.time e.iv e.ciphertext ++ e.mac
token_bytes-signed e = ap (λ (rest : List ℕ). 0x80 ∷ (to_be_bytes w64 e.time ++ rest)) (sym (append_assoc e.iv e.ciphertext e.mac))

-- the parts of a token's bytes as they are cut off, the mac first
pub record AreCut (bytes signed after_version time after_time iv ciphertext mac : List ℕ) : Type 0 where
  pub signed_is : signed ≡ take (length bytes - 32) bytes
  pub mac_is : mac ≡ drop (length bytes - 32) bytes
  pub after_version_is : after_version ≡ drop 1 signed
  pub time_is : time ≡ take 8 after_version
  pub after_time_is : after_time ≡ drop 8 after_version
  pub iv_is : iv ≡ take 16 after_time
  pub ciphertext_is : ciphertext ≡ drop 16 after_time

-- what is left of a front after its own front
drop_front : (m n k : ℕ) (xs : List ℕ) → n ≡ m + k → drop m (take n xs) ≡ take k (drop m xs)
drop_front m n k xs e = rw e (drop-take m k xs)

pub cut_version : (bytes signed r1 time r2 iv c mac : List ℕ) → 57 < length bytes → AreCut bytes signed r1 time r2 iv c mac → r1 ≡ take (length bytes - 33) (drop 1 bytes)
cut_version bytes signed r1 time r2 iv c mac long cut =
    cut.after_version_is ∙ ap (drop 1) cut.signed_is ∙ drop_front 1 (length bytes - 32) (length bytes - 33) bytes (omega arith)

pub cut_time : (bytes signed r1 time r2 iv c mac : List ℕ) → 57 < length bytes → AreCut bytes signed r1 time r2 iv c mac → time ≡ take 8 (drop 1 bytes)
cut_time bytes signed r1 time r2 iv c mac long cut =
    cut.time_is ∙ ap (take 8) (cut_version bytes signed r1 time r2 iv c mac long cut) ∙ take-take 8 (length bytes - 33) (drop 1 bytes) (omega arith)

cut_after_time : (bytes signed r1 time r2 iv c mac : List ℕ) → 57 < length bytes → AreCut bytes signed r1 time r2 iv c mac → r2 ≡ take (length bytes - 41) (drop 9 bytes)
cut_after_time bytes signed r1 time r2 iv c mac long cut =
    cut.after_time_is ∙ ap (drop 8) (cut_version bytes signed r1 time r2 iv c mac long cut)
    ∙ drop_front 8 (length bytes - 33) (length bytes - 41) (drop 1 bytes) (omega arith)
    ∙ ap (take (length bytes - 41)) (drop-drop 8 1 bytes)

pub cut_iv : (bytes signed r1 time r2 iv c mac : List ℕ) → 57 < length bytes → AreCut bytes signed r1 time r2 iv c mac → iv ≡ take 16 (drop 9 bytes)
cut_iv bytes signed r1 time r2 iv c mac long cut =
    cut.iv_is ∙ ap (take 16) (cut_after_time bytes signed r1 time r2 iv c mac long cut) ∙ take-take 16 (length bytes - 41) (drop 9 bytes) (omega arith)

pub cut_ciphertext : (bytes signed r1 time r2 iv c mac : List ℕ) → 57 < length bytes → AreCut bytes signed r1 time r2 iv c mac
    → c ≡ take (length bytes - 57) (drop 25 bytes)
cut_ciphertext bytes signed r1 time r2 iv c mac long cut =
    cut.ciphertext_is ∙ ap (drop 16) (cut_after_time bytes signed r1 time r2 iv c mac long cut)
    ∙ drop_front 16 (length bytes - 41) (length bytes - 57) (drop 9 bytes) (omega arith)
    ∙ ap (take (length bytes - 57)) (drop-drop 16 9 bytes)

pub cut_signed : (bytes signed : List ℕ) → 57 < length bytes → AreBytes bytes → slice_index bytes 0 ≡ 0x80
    → signed ≡ take (length bytes - 32) bytes
    → signed ≡ signed_bytes (parts_of bytes).time (parts_of bytes).iv (parts_of bytes).ciphertext
cut_signed bytes signed long are version front =
    let e : Envelope = parts_of bytes in
    let covered : List ℕ = signed_bytes e.time e.iv e.ciphertext in
    let whole : bytes ≡ covered ++ e.mac = sym (token_bytes-parts_of bytes are long version) ∙ token_bytes-signed e in
    let iv : length e.iv ≡ 16 = length-take-le 16 (drop 9 bytes) (omega (arith, length-drop 9 bytes)) in
    let c : length e.ciphertext ≡ length bytes - 57 = length-take-le (length bytes - 57) (drop 25 bytes) (omega (arith, length-drop 25 bytes)) in
    let n : length covered ≡ length bytes - 32 = omega (arith, length-append e.iv e.ciphertext, iv, c) in
    front ∙ ap (take (length bytes - 32)) whole ∙ take_at covered e.mac (length bytes - 32) n
