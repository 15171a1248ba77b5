-- Cipher block chaining and its inverse, padding, and what was ciphered.
use Rattle.std.proofs.Common.{◌≡◌, ◌≢◌, ℕ, zero, suc, ◌+◌, ◌-◌, ◌*◌, ◌/◌, ◌%◌, ◌<◌, ◌≤◌, List, [], ◌∷◌, ◌++◌, length, slice_index, take, drop, replicate, Option, Some, None, refl, sym, ap, ◌∙◌, arith}
use Rattle.std.proofs.lemmas.Bool.{false≢true}
use Rattle.std.proofs.lemmas.List.{length-take, length-drop, length-append, length-replicate, take-append-drop, take_at, drop_at, get_or-drop, get_or-append-add}
use Rattle.std.proofs.lemmas.Slice.Eq.{bytes_eq-Decides}
use Rattle.std.specs.Str.{bytes_eq}
use Rattle.ks_aes_cbc.specs.Aes.{AreBytes, IsBlock, xor_bytes, aes}
use Rattle.ks_aes_cbc.specs.Cbc.{pad, cbc, cbc_blocks, uncbc}
use Rattle.ks_aes_cbc.specs.Inverse.{unaes, uncbc_blocks}
use Rattle.ks_aes_cbc.proofs.BlockLemmas.{AreBytes-nil, AreBytes-cons, AreBytes-tail, AreBytes-append, xor_block_block, xor_block_cancel}
use Rattle.ks_aes_cbc.proofs.Cipher.{aes_block, unaes_block, unaes-aes, aes-unaes}
use Rattle.ks_aes_cbc.proofs.Search.{first_shorter-some, first_shorter-none}

-- parts of bytes are bytes
pub AreBytes-take : (n : ℕ) (bs : List ℕ) → AreBytes bs → AreBytes (take n bs)
AreBytes-take zero bs h = AreBytes-nil
AreBytes-take (suc n) [] h = AreBytes-nil
AreBytes-take (suc n) (b ∷ bs) h = AreBytes-cons b (take n bs) (h zero) (AreBytes-take n bs (AreBytes-tail b bs h))

pub AreBytes-drop : (n : ℕ) (bs : List ℕ) → AreBytes bs → AreBytes (drop n bs)
AreBytes-drop n bs h k = rw get_or-drop (h (n + k))

AreBytes-replicate : (n b : ℕ) → b < 256 → AreBytes (replicate n b)
AreBytes-replicate zero b lt = AreBytes-nil
AreBytes-replicate (suc n) b lt = AreBytes-cons b (replicate n b) lt (AreBytes-replicate n b lt)

-- the first 16 of enough bytes are a block
pub block_first : (bs : List ℕ) → 16 ≤ length bs → AreBytes bs → IsBlock (take 16 bs)
block_first bs enough h = record {
  long = omega (arith, length-take 16 bs);
  bytes = AreBytes-take 16 bs h;
}

-- both keep the length, and give bytes
pub cbc_blocks-length : (n : ℕ) (key previous q : List ℕ) → IsBlock key → IsBlock previous → AreBytes q → length q ≡ 16 * n
    → length (cbc_blocks n key previous q) ≡ 16 * n
unfolding cbc_blocks
cbc_blocks-length zero key previous q hk hv hq long = refl
cbc_blocks-length (suc n) key previous q hk hv hq long =
    let c : List ℕ = aes key (xor_bytes (take 16 q) previous) in
    let block = aes_block key _ hk (xor_block_block _ previous (block_first q (omega arith) hq) hv) in
    let rest = cbc_blocks-length n key c (drop 16 q) hk block (AreBytes-drop 16 q hq) (omega (arith, length-drop 16 q)) in
    let first : length c ≡ 16 = block.long in
    omega (arith, length-append c (cbc_blocks n key c (drop 16 q)))

pub uncbc_blocks-bytes : (n : ℕ) (key previous q : List ℕ) → IsBlock key → IsBlock previous → AreBytes q → length q ≡ 16 * n
    → (length (uncbc_blocks n key previous q) ≡ 16 * n) × AreBytes (uncbc_blocks n key previous q)
unfolding uncbc_blocks
uncbc_blocks-bytes zero key previous q hk hv hq long = (refl, AreBytes-nil)
uncbc_blocks-bytes (suc n) key previous q hk hv hq long =
    let first = block_first q (omega arith) hq in
    let p : List ℕ = xor_bytes (unaes key (take 16 q)) previous in
    let block = xor_block_block (unaes key (take 16 q)) previous (unaes_block key (take 16 q) hk first) hv in
    let rest = uncbc_blocks-bytes n key (take 16 q) (drop 16 q) hk first (AreBytes-drop 16 q hq) (omega (arith, length-drop 16 q)) in
    let front : length p ≡ 16 = block.long in
    let back : length (uncbc_blocks n key (take 16 q) (drop 16 q)) ≡ 16 * n = rest.0 in (
      omega (arith, length-append p (uncbc_blocks n key (take 16 q) (drop 16 q))),
      AreBytes-append p (uncbc_blocks n key (take 16 q) (drop 16 q)) block.bytes rest.1,
    )

-- each undoes the other
pub uncbc-cbc_blocks : (n : ℕ) (key previous q : List ℕ) → IsBlock key → IsBlock previous → AreBytes q → length q ≡ 16 * n
    → uncbc_blocks n key previous (cbc_blocks n key previous q) ≡ q
unfolding cbc_blocks uncbc_blocks
uncbc-cbc_blocks zero key previous [] hk hv hq long = refl
uncbc-cbc_blocks zero key previous (b ∷ q) hk hv hq long = absurd (omega arith)
uncbc-cbc_blocks (suc n) key previous q hk hv hq long =
    let first = block_first q (omega arith) hq in
    let added = xor_block_block (take 16 q) previous first hv in
    let c : List ℕ = aes key (xor_bytes (take 16 q) previous) in
    let block = aes_block key (xor_bytes (take 16 q) previous) hk added in
    let front : take 16 (c ++ cbc_blocks n key c (drop 16 q)) ≡ c = take_at c _ 16 block.long in
    let back : drop 16 (c ++ cbc_blocks n key c (drop 16 q)) ≡ cbc_blocks n key c (drop 16 q) = drop_at c _ 16 block.long in
    rw (front, back)
    (ap (λ x. xor_bytes x previous ++ uncbc_blocks n key c (cbc_blocks n key c (drop 16 q))) (unaes-aes key (xor_bytes (take 16 q) previous) hk added)
    ∙ ap (λ x. x ++ uncbc_blocks n key c (cbc_blocks n key c (drop 16 q))) (xor_block_cancel (take 16 q) previous first hv)
    ∙ ap (λ x. take 16 q ++ x) (uncbc-cbc_blocks n key c (drop 16 q) hk block (AreBytes-drop 16 q hq) (omega (arith, length-drop 16 q)))
    ∙ take-append-drop 16 q)

pub cbc-uncbc_blocks : (n : ℕ) (key previous q : List ℕ) → IsBlock key → IsBlock previous → AreBytes q → length q ≡ 16 * n
    → cbc_blocks n key previous (uncbc_blocks n key previous q) ≡ q
unfolding cbc_blocks uncbc_blocks
cbc-uncbc_blocks zero key previous [] hk hv hq long = refl
cbc-uncbc_blocks zero key previous (b ∷ q) hk hv hq long = absurd (omega arith)
cbc-uncbc_blocks (suc n) key previous q hk hv hq long =
    let first = block_first q (omega arith) hq in
    let opened = unaes_block key (take 16 q) hk first in
    let p : List ℕ = xor_bytes (unaes key (take 16 q)) previous in
    let block = xor_block_block (unaes key (take 16 q)) previous opened hv in
    let rest : List ℕ = uncbc_blocks n key (take 16 q) (drop 16 q) in
    let front : take 16 (p ++ rest) ≡ p = take_at p rest 16 block.long in
    let back : drop 16 (p ++ rest) ≡ rest = drop_at p rest 16 block.long in
    let same : aes key (xor_bytes p previous) ≡ take 16 q =
    ap (aes key) (xor_block_cancel (unaes key (take 16 q)) previous opened hv) ∙ aes-unaes key (take 16 q) hk first in
    rw (front, back, same)
    (ap (λ x. take 16 q ++ x) (cbc-uncbc_blocks n key (take 16 q) (drop 16 q) hk first (AreBytes-drop 16 q hq) (omega (arith, length-drop 16 q)))
    ∙ take-append-drop 16 q)

-- Padding: a whole number of blocks, at least one.
pub pad-length : (p : List ℕ) → length (pad p) ≡ 16 * (length p / 16 + 1)
unfolding pad
pad-length p =
    let n : ℕ = 16 - length p % 16 in
    omega (arith, length-append p (replicate n n), length-replicate n n)

pub pad-bytes : (p : List ℕ) → AreBytes p → AreBytes (pad p)
unfolding pad
pad-bytes p h =
    let n : ℕ = 16 - length p % 16 in
    AreBytes-append p (replicate n n) h (AreBytes-replicate n n (omega arith))

-- the last byte of padded bytes, of which it has one more than none
pub pad-last : (p : List ℕ) → slice_index (pad p) (length (pad p) - 1) ≡ 16 - length p % 16
unfolding pad
pad-last p =
    let n : ℕ = 16 - length p % 16 in
    let at : length (p ++ replicate n n) - 1 ≡ length p + (n - 1) = omega (arith, length-append p (replicate n n), length-replicate n n) in
    ap (slice_index (p ++ replicate n n)) at ∙ get_or-append-add p (replicate n n) (n - 1) 0
    ∙ replicated n n (n - 1) (omega arith)
  where
    replicated : (m b k : ℕ) → k < m → slice_index (replicate m b) k ≡ b
    replicated zero b k lt = absurd (omega arith)
    replicated (suc m) b zero lt = refl
    replicated (suc m) b (suc k) lt = replicated m b k (omega arith)

-- what pads a list: its end holds the padding, and its front is what was padded
pub pad-parts : (p bytes : List ℕ) (n : ℕ) → pad p ≡ bytes → slice_index bytes (length bytes - 1) ≡ n
    → (1 ≤ n) × (n ≤ 16) × (n ≤ length bytes) × (take (length bytes - n) bytes ≡ p) × (drop (length bytes - n) bytes ≡ replicate n n)
unfolding pad
pad-parts p bytes n e last =
    let m : ℕ = 16 - length p % 16 in
    let is : m ≡ n = sym (pad-last p) ∙ ap (λ s. slice_index s (length s - 1)) e ∙ last in
    let long : length bytes ≡ length p + m = sym (ap length e) ∙ length-append p (replicate m m) ∙ ap (λ x. length p + x) (length-replicate m m) in
    let at : length p ≡ length bytes - n = omega arith in (
      omega arith,
      omega arith,
      omega arith,
      ap (take (length bytes - n)) (sym e) ∙ take_at p (replicate m m) (length bytes - n) at,
      ap (drop (length bytes - n)) (sym e) ∙ drop_at p (replicate m m) (length bytes - n) at ∙ ap (λ x. replicate x x) is,
    )

pub pad-from : (bytes : List ℕ) (n : ℕ) → 1 ≤ n → n ≤ 16 → n ≤ length bytes → length bytes % 16 ≡ 0
    → drop (length bytes - n) bytes ≡ replicate n n → pad (take (length bytes - n) bytes) ≡ bytes
unfolding pad
pad-from bytes n low high fits whole tail =
    let front : length (take (length bytes - n) bytes) ≡ length bytes - n = omega (arith, length-take (length bytes - n) bytes) in
    let is : 16 - length (take (length bytes - n) bytes) % 16 ≡ n = omega arith in
    rw is (rw (← tail) (take-append-drop (length bytes - n) bytes))

pub pad_same : (p q : List ℕ) → pad p ≡ pad q → p ≡ q
pad_same p q e =
    let left = pad-parts p (pad q) _ e refl in
    let right = pad-parts q (pad q) _ refl refl in
    sym left.3 ∙ right.3

-- CBC of padded bytes, as blocks
pub cbc-pad : (key iv p : List ℕ) → cbc key iv (pad p) ≡ cbc_blocks (length p / 16 + 1) key iv (pad p)
unfolding cbc
cbc-pad key iv p =
    let n : length (pad p) / 16 ≡ length p / 16 + 1 = omega (arith, pad-length p) in
    ap (λ m. cbc_blocks m key iv (pad p)) n

pub cbc-length : (key iv p : List ℕ) → IsBlock key → IsBlock iv → AreBytes p → length (cbc key iv (pad p)) ≡ 16 * (length p / 16 + 1)
cbc-length key iv p hk hv hp =
    ap length (cbc-pad key iv p)
    ∙ cbc_blocks-length (length p / 16 + 1) key iv (pad p) hk hv (pad-bytes p hp) (pad-length p)

-- what some bytes were ciphered from is their deciphering
pub cbc-opened : (key iv p sealed : List ℕ) → IsBlock key → IsBlock iv → AreBytes p → cbc key iv (pad p) ≡ sealed
    → uncbc_blocks (length sealed / 16) key iv sealed ≡ pad p
cbc-opened key iv p sealed hk hv hp e =
    let long : length sealed ≡ 16 * (length p / 16 + 1) = sym (ap length e) ∙ cbc-length key iv p hk hv hp in
    let n : length sealed / 16 ≡ length p / 16 + 1 = omega arith in
    rw n (ap (uncbc_blocks (length p / 16 + 1) key iv) (sym e ∙ cbc-pad key iv p)
    ∙ uncbc-cbc_blocks (length p / 16 + 1) key iv (pad p) hk hv (pad-bytes p hp) (pad-length p))

pub cbc_same : (key iv p q sealed : List ℕ) → IsBlock key → IsBlock iv → AreBytes p → AreBytes q
    → cbc key iv (pad p) ≡ sealed → cbc key iv (pad q) ≡ sealed → p ≡ q
cbc_same key iv p q sealed hk hv hp hq e f =
    pad_same p q (sym (cbc-opened key iv p sealed hk hv hp e) ∙ cbc-opened key iv q sealed hk hv hq f)

-- what is found was ciphered to this, and where nothing is found nothing was
pub uncbc-some : (key iv sealed p : List ℕ) → uncbc key iv sealed ≡ Some p
    → AreBytes p × (cbc key iv (pad p) ≡ sealed) × (length p < length sealed)
unfolding uncbc
uncbc-some key iv sealed p e =
    let found = first_shorter-some (λ p. bytes_eq (cbc key iv (pad p)) sealed) (length sealed) p e in
    let short : found.0 < length sealed = found.1 in
    let long : length p ≡ found.0 = found.2.long in
    (found.2.bytes, (bytes_eq-Decides (cbc key iv (pad p)) sealed).0 found.2.passes, omega arith)

pub uncbc-none : (key iv sealed p : List ℕ) → IsBlock key → IsBlock iv → uncbc key iv sealed ≡ None → AreBytes p
    → cbc key iv (pad p) ≢ sealed
unfolding uncbc
uncbc-none key iv sealed p hk hv e hp same =
    let long : length sealed ≡ 16 * (length p / 16 + 1) = sym (ap length same) ∙ cbc-length key iv p hk hv hp in
    let fails = first_shorter-none (λ p. bytes_eq (cbc key iv (pad p)) sealed) (length sealed) e p hp (omega arith) in
    let passes = (bytes_eq-Decides (cbc key iv (pad p)) sealed).1 same in
    false≢true (sym fails ∙ passes)

-- so it finds exactly what was ciphered
pub uncbc_is : (key iv p sealed : List ℕ) → IsBlock key → IsBlock iv → AreBytes p → cbc key iv (pad p) ≡ sealed → uncbc key iv sealed ≡ Some p
uncbc_is key iv p sealed hk hv hp e = by_cases (uncbc key iv sealed) refl
  where
    by_cases : (o : Option (List ℕ)) → uncbc key iv sealed ≡ o → o ≡ Some p
    by_cases None was = absurd (uncbc-none key iv sealed p hk hv was hp e)
    by_cases (Some q) was =
        let found = uncbc-some key iv sealed q was in
        ap Some (cbc_same key iv q p sealed hk hv found.0 hp found.1 e)

pub uncbc_not : (key iv sealed : List ℕ) → ((p : List ℕ) → AreBytes p → cbc key iv (pad p) ≢ sealed) → uncbc key iv sealed ≡ None
uncbc_not key iv sealed none = by_cases (uncbc key iv sealed) refl
  where
    by_cases : (o : Option (List ℕ)) → uncbc key iv sealed ≡ o → o ≡ None
    by_cases None was = refl
    by_cases (Some q) was =
        let found = uncbc-some key iv sealed q was in
        absurd (none q found.0 found.1)
