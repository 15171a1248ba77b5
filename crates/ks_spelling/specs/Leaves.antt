-- The spellings of bytes, numbers and runs of bytes.
use Rattle.std.proofs.Common.{◌≡◌, ℕ, ◌^◌, ◌<◌, ◌≤◌, false, List, [], ◌∷◌, ◌++◌, length, take, drop, Option, Some, None, refl, sym, ap, subst, ◌∙◌, append_assoc, arith}
use Rattle.std.specs.Prelude.{nat_lt, if◌then◌else◌, option_and_then, option_map}
use Rattle.std.specs.Int.{Width, w32, w64, byte_len, from_be_bytes, to_be_bytes}
use Rattle.std.proofs.lemmas.Bool.{ltb-false, le-ltb}
use Rattle.std.proofs.lemmas.List.{take_at, drop_at, take-append-drop, length-append, length-take-le}
use Rattle.std.proofs.lemmas.Nat.{be_bytes_4, be_bytes_8, from_be_bytes-to_be_bytes_4, from_be_bytes-to_be_bytes_8}
use Rattle.ks_spelling.specs.Codes.{IsBytes, Code}
use Rattle.ks_spelling.specs.Readings.{bytes_before, same_some, and_then_some, map_some, unless_some}

-- ---- a byte

-- the first byte and the rest
abbrev pub read_byte : List ℕ → Option (ℕ × List ℕ)
read_byte [] = None
read_byte (b ∷ rest) = Some (b, rest)

pub byte_takes : (bytes : List ℕ) (b : ℕ) (rest : List ℕ) → IsBytes bytes → read_byte bytes ≡ Some (b, rest) → (b < 256) × (bytes ≡ b ∷ [] ++ rest)
byte_takes [] b rest is h = absurd cc
byte_takes (a ∷ bytes) b rest is h =
    subst (λ (p : ℕ × List ℕ). (p.0 < 256) × (a ∷ bytes ≡ p.0 ∷ p.1)) (same_some (a, bytes) (b, rest) h) (is 0, refl)

-- | a byte as it stands
abbrev pub byte : Code ℕ
byte = record {
  Fits = λ b. b < 256;
  spell = λ b. b ∷ [];
  read = read_byte;
  again = λ b rest fits. refl;
  takes = byte_takes;
}

-- ---- a run of bytes of known length

-- the first n bytes and the rest, where there are n
abbrev pub cut : ℕ → List ℕ → Option (List ℕ × List ℕ)
cut n bytes = if nat_lt (length bytes) n then None else Some (take n bytes, drop n bytes)

pub cut_again : (x rest : List ℕ) (n : ℕ) → length x ≡ n → cut n (x ++ rest) ≡ Some (x, rest)
cut_again x rest n len =
    let long : nat_lt (length (x ++ rest)) n ≡ false = le-ltb _ _ (omega (arith, length-append x rest)) in
    rw (long, take_at x rest n len, drop_at x rest n len) refl

pub cut_takes : (n : ℕ) (bytes x rest : List ℕ) → cut n bytes ≡ Some (x, rest) → (length x ≡ n) × (bytes ≡ x ++ rest)
cut_takes n bytes x rest h =
    let g = unless_some (nat_lt (length bytes) n) (take n bytes, drop n bytes) (x, rest) h in
    let long : n ≤ length bytes = ltb-false _ _ g.0 in
    subst (λ (p : List ℕ × List ℕ). (length p.0 ≡ n) × (bytes ≡ p.0 ++ p.1)) g.1 (length-take-le n bytes long, sym (take-append-drop n bytes))

-- | a run of n bytes as it stands
abbrev pub fixed : ℕ → Code (List ℕ)
fixed n = record {
  Fits = λ x. length x ≡ n;
  spell = λ x. x;
  read = cut n;
  again = λ x rest fits. cut_again x rest n fits;
  takes = λ bytes x rest is h. cut_takes n bytes x rest h;
}

-- ---- numbers, the high byte first

pub record IsWide (w : Width) (limit : ℕ) : Type 0 where
  pub len : (n : ℕ) → length (to_be_bytes w n) ≡ byte_len w
  pub back : (bytes : List ℕ) → length bytes ≡ byte_len w → IsBytes bytes → to_be_bytes w (from_be_bytes w bytes) ≡ bytes
  pub again : (n : ℕ) → n < limit → from_be_bytes w (to_be_bytes w n) ≡ n
  pub below : (bytes : List ℕ) → IsBytes bytes → from_be_bytes w bytes < limit

pub wide32 : IsWide w32 (2 ^ 32)
wide32 = record {
  len = λ n. refl;
  back = λ bytes len fits. be_bytes_4 bytes _ len fits refl;
  again = λ n lt. from_be_bytes-to_be_bytes_4 n lt;
  below = λ bytes fits. omega (arith, fits 0, fits 1, fits 2, fits 3);
}

pub wide64 : IsWide w64 (2 ^ 64)
wide64 = record {
  len = λ n. refl;
  back = λ bytes len fits. be_bytes_8 bytes _ len fits refl;
  again = λ n lt. from_be_bytes-to_be_bytes_8 n lt;
  below = λ bytes fits. omega (arith, fits 0, fits 1, fits 2, fits 3, fits 4, fits 5, fits 6, fits 7);
}

-- so many bytes, as a number
abbrev pub read_number : Width → List ℕ → Option (ℕ × List ℕ)
read_number w bytes = option_map (λ p. (from_be_bytes w p.0, p.1)) (cut (byte_len w) bytes)

pub number_again : (w : Width) (limit : ℕ) (wide : IsWide w limit) (n : ℕ) (rest : List ℕ) → n < limit → read_number w (to_be_bytes w n ++ rest) ≡ Some (n, rest)
number_again w limit wide n rest lt =
    ap (option_map (λ (p : List ℕ × List ℕ). (from_be_bytes w p.0, p.1))) (cut_again (to_be_bytes w n) rest (byte_len w) (wide.len n))
    ∙ ap (λ (m : ℕ). Some (m, rest)) (wide.again n lt)

pub number_takes : (w : Width) (limit : ℕ) (wide : IsWide w limit) (bytes : List ℕ) (n : ℕ) (rest : List ℕ) → IsBytes bytes → read_number w bytes ≡ Some (n, rest) → (n < limit) × (bytes ≡ to_be_bytes w n ++ rest)
number_takes w limit wide bytes n rest is h =
    let m = map_some (λ (p : List ℕ × List ℕ). (from_be_bytes w p.0, p.1)) (cut (byte_len w) bytes) (n, rest) h in
    let t = cut_takes (byte_len w) bytes m.0.0 m.0.1 m.1 in
    let front : IsBytes m.0.0 = bytes_before m.0.0 m.0.1 (subst (λ (xs : List ℕ). IsBytes xs) t.1 is) in
    let spelled : bytes ≡ to_be_bytes w (from_be_bytes w m.0.0) ++ m.0.1 = t.1 ∙ ap (λ (xs : List ℕ). xs ++ m.0.1) (sym (wide.back m.0.0 t.0 front)) in
    subst (λ (p : ℕ × List ℕ). (p.0 < limit) × (bytes ≡ to_be_bytes w p.0 ++ p.1)) m.2 (wide.below m.0.0 front, spelled)

-- | a number in 4 or in 8 bytes, the high one first
abbrev pub number : (w : Width) (limit : ℕ) → IsWide w limit → Code ℕ
number w limit wide = record {
  Fits = λ n. n < limit;
  spell = λ n. to_be_bytes w n;
  read = read_number w;
  again = number_again w limit wide;
  takes = number_takes w limit wide;
}

unfoldable pub number32 : Code ℕ
number32 = number w32 (2 ^ 32) wide32

unfoldable pub number64 : Code ℕ
number64 = number w64 (2 ^ 64) wide64

-- ---- bytes behind their count

-- so many bytes behind their count, and the rest
abbrev pub read_counted : Code ℕ → List ℕ → Option (List ℕ × List ℕ)
read_counted count bytes = option_and_then (λ n. cut n.0 n.1) (count.read bytes)

pub counted_again : (count : Code ℕ) (x rest : List ℕ) → count.Fits (length x) → read_counted count ((count.spell (length x) ++ x) ++ rest) ≡ Some (x, rest)
counted_again count x rest fits =
    ap (read_counted count) (append_assoc (count.spell (length x)) x rest)
    ∙ ap (option_and_then (λ (n : ℕ × List ℕ). cut n.0 n.1)) (count.again (length x) (x ++ rest) fits)
    ∙ cut_again x rest (length x) refl

pub counted_takes : (count : Code ℕ) (bytes x rest : List ℕ) → IsBytes bytes → read_counted count bytes ≡ Some (x, rest) → count.Fits (length x) × (bytes ≡ (count.spell (length x) ++ x) ++ rest)
counted_takes count bytes x rest is h =
    let m = and_then_some (λ (n : ℕ × List ℕ). cut n.0 n.1) (count.read bytes) (x, rest) h in
    let head = count.takes bytes m.0.0 m.0.1 is m.1 in
    let body = cut_takes m.0.0 m.0.1 x rest m.2 in
    let whole : bytes ≡ (count.spell m.0.0 ++ x) ++ rest = head.1 ∙ ap (λ (xs : List ℕ). count.spell m.0.0 ++ xs) body.1 ∙ sym (append_assoc (count.spell m.0.0) x rest) in
    subst (λ (k : ℕ). count.Fits k × (bytes ≡ (count.spell k ++ x) ++ rest)) (sym body.0) (head.0, whole)

-- | bytes behind their count
abbrev pub counted : Code ℕ → Code (List ℕ)
counted count = record {
  Fits = λ x. count.Fits (length x);
  spell = λ x. count.spell (length x) ++ x;
  read = read_counted count;
  again = counted_again count;
  takes = counted_takes count;
}
