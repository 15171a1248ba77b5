-- Rounds on words: four columns at once, and sums of blocks.
use Rattle.std.proofs.Common.{◌≡◌, ℕ, ◌<◌, List, [], ◌∷◌, ◌++◌, length, slice_index, refl, ap, ◌∙◌, arith, append_assoc}
use Rattle.std.specs.Prelude.{bit_xor}
use Rattle.std.specs.Int.{w32, to_be_bytes, from_be_bytes, byte_at}
use Rattle.std.proofs.lemmas.Nat.Bits.{same_from_bits, bit_at_xor}
use Rattle.ks_aes_cbc.specs.Field.{product}
use Rattle.ks_aes_cbc.specs.Aes.{AreBytes, IsBlock, sbox, sub_bytes, shift_rows, mix_columns, sum4, circulant, xor_bytes, next_round_key, turned_word}
use Rattle.ks_aes_cbc.specs.Inverse.{unsbox, unsub_bytes, unshift_rows, unmix_columns}
use Rattle.ks_aes_cbc.specs.Columns.{block_of}
use Rattle.ks_aes_cbc.proofs.Fields.{product_xor}
use Rattle.ks_aes_cbc.proofs.BlockLemmas.{AreBytes-four, written_out, xor_bytes-at}
use Rattle.ks_aes_cbc.proofs.WordLemmas.{bytes-xor, from_bytes, AreBytes-word}

-- the sum of two blocks, word by word
pub summed_columns : (a b : List ℕ)
    → block_of (bit_xor (slice_index a 0) (slice_index b 0) ∷ bit_xor (slice_index a 1) (slice_index b 1)
    ∷ bit_xor (slice_index a 2) (slice_index b 2) ∷ bit_xor (slice_index a 3) (slice_index b 3) ∷ [])
    ≡ xor_bytes (block_of a) (block_of b)
unfolding block_of xor_bytes
summed_columns a b =
    let e = λ (i : ℕ). bytes-xor (slice_index a i) (slice_index b i) in
    joined _ _ _ _ _ _ _ _ (e 0) (e 1) (e 2) (e 3)
  where
    joined : (x0 x1 x2 x3 y0 y1 y2 y3 : List ℕ) → x0 ≡ y0 → x1 ≡ y1 → x2 ≡ y2 → x3 ≡ y3
        → x0 ++ (x1 ++ (x2 ++ x3)) ≡ y0 ++ (y1 ++ (y2 ++ y3))
    joined x0 x1 x2 x3 y0 y1 y2 y3 e0 e1 e2 e3 = rw (e0, e1, e2, e3) refl

-- four columns that are given make the block
pub block_from : (n0 n1 n2 n3 : ℕ) (x0 x1 x2 x3 : List ℕ) → to_be_bytes w32 n0 ≡ x0 → to_be_bytes w32 n1 ≡ x1
    → to_be_bytes w32 n2 ≡ x2 → to_be_bytes w32 n3 ≡ x3 → block_of (n0 ∷ n1 ∷ n2 ∷ n3 ∷ []) ≡ x0 ++ (x1 ++ (x2 ++ x3))
unfolding block_of
block_from n0 n1 n2 n3 x0 x1 x2 x3 e0 e1 e2 e3 = joined _ _ _ _ x0 x1 x2 x3 e0 e1 e2 e3
  where
    joined : (x0 x1 x2 x3 y0 y1 y2 y3 : List ℕ) → x0 ≡ y0 → x1 ≡ y1 → x2 ≡ y2 → x3 ≡ y3
        → x0 ++ (x1 ++ (x2 ++ x3)) ≡ y0 ++ (y1 ++ (y2 ++ y3))
    joined x0 x1 x2 x3 y0 y1 y2 y3 e0 e1 e2 e3 = rw (e0, e1, e2, e3) refl

-- the columns of a block
pub columns_of_block : (b : List ℕ) (n0 n1 n2 n3 : ℕ) → length b ≡ 16 → AreBytes b
    → n0 ≡ from_be_bytes w32 (slice_index b 0 ∷ slice_index b 1 ∷ slice_index b 2 ∷ slice_index b 3 ∷ [])
    → n1 ≡ from_be_bytes w32 (slice_index b 4 ∷ slice_index b 5 ∷ slice_index b 6 ∷ slice_index b 7 ∷ [])
    → n2 ≡ from_be_bytes w32 (slice_index b 8 ∷ slice_index b 9 ∷ slice_index b 10 ∷ slice_index b 11 ∷ [])
    → n3 ≡ from_be_bytes w32 (slice_index b 12 ∷ slice_index b 13 ∷ slice_index b 14 ∷ slice_index b 15 ∷ [])
    → block_of (n0 ∷ n1 ∷ n2 ∷ n3 ∷ []) ≡ b
columns_of_block b n0 n1 n2 n3 long h e0 e1 e2 e3 =
    block_from n0 n1 n2 n3 _ _ _ _
    (from_bytes _ _ _ _ n0 (h 0) (h 1) (h 2) (h 3) e0) (from_bytes _ _ _ _ n1 (h 4) (h 5) (h 6) (h 7) e1)
    (from_bytes _ _ _ _ n2 (h 8) (h 9) (h 10) (h 11) e2) (from_bytes _ _ _ _ n3 (h 12) (h 13) (h 14) (h 15) e3)
    ∙ written_out b long

-- columns stand for a block
pub block_of_block : (columns : List ℕ) → IsBlock (block_of columns)
unfolding block_of
block_of_block columns =
    let word : ℕ → List ℕ = λ i. to_be_bytes w32 (slice_index columns i) in
    let fit : (i : ℕ) → AreBytes (word i) = λ i. AreBytes-word (slice_index columns i) in
    record {
      long = refl;
      bytes = AreBytes-four (word 0) (word 1) (word 2) (word 3) (fit 0) (fit 1) (fit 2) (fit 3);
    }

-- a block behind bytes, a column after the other
pub appended : (columns o0 o1 o2 o3 o4 b0 b1 b2 b3 : List ℕ) → b0 ≡ to_be_bytes w32 (slice_index columns 0)
    → b1 ≡ to_be_bytes w32 (slice_index columns 1) → b2 ≡ to_be_bytes w32 (slice_index columns 2)
    → b3 ≡ to_be_bytes w32 (slice_index columns 3) → o1 ≡ o0 ++ b0 → o2 ≡ o1 ++ b1 → o3 ≡ o2 ++ b2 → o4 ≡ o3 ++ b3
    → o4 ≡ o0 ++ block_of columns
unfolding block_of
appended columns o0 o1 o2 o3 o4 b0 b1 b2 b3 e0 e1 e2 e3 p0 p1 p2 p3 =
    let word : ℕ → List ℕ = λ i. to_be_bytes w32 (slice_index columns i) in
    rw (p3, p2, p1, p0, e0, e1, e2, e3)
    (append_assoc ((o0 ++ word 0) ++ word 1) (word 2) (word 3) ∙ append_assoc (o0 ++ word 0) (word 1) (word 2 ++ word 3)
    ∙ append_assoc o0 (word 0) (word 1 ++ (word 2 ++ word 3)))

-- the byte in row r of a word
abbrev row0 : List ℕ → ℕ → ℕ
row0 s i = byte_at 3 (slice_index s i)

abbrev row1 : List ℕ → ℕ → ℕ
row1 s i = byte_at 2 (slice_index s i)

abbrev row2 : List ℕ → ℕ → ℕ
row2 s i = byte_at 1 (slice_index s i)

abbrev row3 : List ℕ → ℕ → ℕ
row3 s i = byte_at 0 (slice_index s i)

pub sealed_columns : (s k : List ℕ) (n0 n1 n2 n3 : ℕ)
    → to_be_bytes w32 n0 ≡ xor_bytes (circulant 2 3 1 1 (sbox (row0 s 0)) (sbox (row1 s 1)) (sbox (row2 s 2)) (sbox (row3 s 3))) (to_be_bytes w32 (slice_index k 0))
    → to_be_bytes w32 n1 ≡ xor_bytes (circulant 2 3 1 1 (sbox (row0 s 1)) (sbox (row1 s 2)) (sbox (row2 s 3)) (sbox (row3 s 0))) (to_be_bytes w32 (slice_index k 1))
    → to_be_bytes w32 n2 ≡ xor_bytes (circulant 2 3 1 1 (sbox (row0 s 2)) (sbox (row1 s 3)) (sbox (row2 s 0)) (sbox (row3 s 1))) (to_be_bytes w32 (slice_index k 2))
    → to_be_bytes w32 n3 ≡ xor_bytes (circulant 2 3 1 1 (sbox (row0 s 3)) (sbox (row1 s 0)) (sbox (row2 s 1)) (sbox (row3 s 2))) (to_be_bytes w32 (slice_index k 3))
    → block_of (n0 ∷ n1 ∷ n2 ∷ n3 ∷ []) ≡ xor_bytes (mix_columns (shift_rows (sub_bytes (block_of s)))) (block_of k)
unfolding block_of circulant xor_bytes
sealed_columns s k n0 n1 n2 n3 e0 e1 e2 e3 = block_from n0 n1 n2 n3 _ _ _ _ e0 e1 e2 e3

pub last_sealed_columns : (s k : List ℕ) (n0 n1 n2 n3 : ℕ)
    → to_be_bytes w32 n0 ≡ xor_bytes (sbox (row0 s 0) ∷ sbox (row1 s 1) ∷ sbox (row2 s 2) ∷ sbox (row3 s 3) ∷ []) (to_be_bytes w32 (slice_index k 0))
    → to_be_bytes w32 n1 ≡ xor_bytes (sbox (row0 s 1) ∷ sbox (row1 s 2) ∷ sbox (row2 s 3) ∷ sbox (row3 s 0) ∷ []) (to_be_bytes w32 (slice_index k 1))
    → to_be_bytes w32 n2 ≡ xor_bytes (sbox (row0 s 2) ∷ sbox (row1 s 3) ∷ sbox (row2 s 0) ∷ sbox (row3 s 1) ∷ []) (to_be_bytes w32 (slice_index k 2))
    → to_be_bytes w32 n3 ≡ xor_bytes (sbox (row0 s 3) ∷ sbox (row1 s 0) ∷ sbox (row2 s 1) ∷ sbox (row3 s 2) ∷ []) (to_be_bytes w32 (slice_index k 3))
    → block_of (n0 ∷ n1 ∷ n2 ∷ n3 ∷ []) ≡ xor_bytes (shift_rows (sub_bytes (block_of s))) (block_of k)
unfolding block_of xor_bytes
last_sealed_columns s k n0 n1 n2 n3 e0 e1 e2 e3 = block_from n0 n1 n2 n3 _ _ _ _ e0 e1 e2 e3

pub opened_columns : (s k : List ℕ) (n0 n1 n2 n3 : ℕ)
    → to_be_bytes w32 n0 ≡ xor_bytes (circulant 14 11 13 9 (unsbox (row0 s 0)) (unsbox (row1 s 3)) (unsbox (row2 s 2)) (unsbox (row3 s 1))) (to_be_bytes w32 (slice_index k 0))
    → to_be_bytes w32 n1 ≡ xor_bytes (circulant 14 11 13 9 (unsbox (row0 s 1)) (unsbox (row1 s 0)) (unsbox (row2 s 3)) (unsbox (row3 s 2))) (to_be_bytes w32 (slice_index k 1))
    → to_be_bytes w32 n2 ≡ xor_bytes (circulant 14 11 13 9 (unsbox (row0 s 2)) (unsbox (row1 s 1)) (unsbox (row2 s 0)) (unsbox (row3 s 3))) (to_be_bytes w32 (slice_index k 2))
    → to_be_bytes w32 n3 ≡ xor_bytes (circulant 14 11 13 9 (unsbox (row0 s 3)) (unsbox (row1 s 2)) (unsbox (row2 s 1)) (unsbox (row3 s 0))) (to_be_bytes w32 (slice_index k 3))
    → block_of (n0 ∷ n1 ∷ n2 ∷ n3 ∷ []) ≡ xor_bytes (unmix_columns (unsub_bytes (unshift_rows (block_of s)))) (block_of k)
unfolding block_of circulant xor_bytes
opened_columns s k n0 n1 n2 n3 e0 e1 e2 e3 = block_from n0 n1 n2 n3 _ _ _ _ e0 e1 e2 e3

pub last_opened_columns : (s k : List ℕ) (n0 n1 n2 n3 : ℕ)
    → to_be_bytes w32 n0 ≡ xor_bytes (unsbox (row0 s 0) ∷ unsbox (row1 s 3) ∷ unsbox (row2 s 2) ∷ unsbox (row3 s 1) ∷ []) (to_be_bytes w32 (slice_index k 0))
    → to_be_bytes w32 n1 ≡ xor_bytes (unsbox (row0 s 1) ∷ unsbox (row1 s 0) ∷ unsbox (row2 s 3) ∷ unsbox (row3 s 2) ∷ []) (to_be_bytes w32 (slice_index k 1))
    → to_be_bytes w32 n2 ≡ xor_bytes (unsbox (row0 s 2) ∷ unsbox (row1 s 1) ∷ unsbox (row2 s 0) ∷ unsbox (row3 s 3) ∷ []) (to_be_bytes w32 (slice_index k 2))
    → to_be_bytes w32 n3 ≡ xor_bytes (unsbox (row0 s 3) ∷ unsbox (row1 s 2) ∷ unsbox (row2 s 1) ∷ unsbox (row3 s 0) ∷ []) (to_be_bytes w32 (slice_index k 3))
    → block_of (n0 ∷ n1 ∷ n2 ∷ n3 ∷ []) ≡ xor_bytes (unsub_bytes (unshift_rows (block_of s))) (block_of k)
unfolding block_of xor_bytes
last_opened_columns s k n0 n1 n2 n3 e0 e1 e2 e3 = block_from n0 n1 n2 n3 _ _ _ _ e0 e1 e2 e3

pub unmixed_columns : (s : List ℕ) (n0 n1 n2 n3 : ℕ)
    → to_be_bytes w32 n0 ≡ circulant 14 11 13 9 (row0 s 0) (row1 s 0) (row2 s 0) (row3 s 0)
    → to_be_bytes w32 n1 ≡ circulant 14 11 13 9 (row0 s 1) (row1 s 1) (row2 s 1) (row3 s 1)
    → to_be_bytes w32 n2 ≡ circulant 14 11 13 9 (row0 s 2) (row1 s 2) (row2 s 2) (row3 s 2)
    → to_be_bytes w32 n3 ≡ circulant 14 11 13 9 (row0 s 3) (row1 s 3) (row2 s 3) (row3 s 3)
    → block_of (n0 ∷ n1 ∷ n2 ∷ n3 ∷ []) ≡ unmix_columns (block_of s)
unfolding block_of
unmixed_columns s n0 n1 n2 n3 e0 e1 e2 e3 = block_from n0 n1 n2 n3 _ _ _ _ e0 e1 e2 e3

-- the next round key, of words
pub next_columns : (k : List ℕ) (constant turned extra n0 n1 n2 n3 : ℕ)
    → to_be_bytes w32 turned ≡ sbox (row1 k 3) ∷ sbox (row2 k 3) ∷ sbox (row3 k 3) ∷ sbox (row0 k 3) ∷ []
    → to_be_bytes w32 extra ≡ constant ∷ 0 ∷ 0 ∷ 0 ∷ []
    → n0 ≡ bit_xor (slice_index k 0) (bit_xor turned extra) → n1 ≡ bit_xor (slice_index k 1) n0
    → n2 ≡ bit_xor (slice_index k 2) n1 → n3 ≡ bit_xor (slice_index k 3) n2
    → block_of (n0 ∷ n1 ∷ n2 ∷ n3 ∷ []) ≡ next_round_key constant (block_of k)
unfolding block_of next_round_key
next_columns k constant turned extra n0 n1 n2 n3 et ex e0 e1 e2 e3 =
    let step = λ (a b n : ℕ) (x : List ℕ) (e : n ≡ bit_xor a b) (f : to_be_bytes w32 b ≡ x).
    ap (to_be_bytes w32) e ∙ bytes-xor a b ∙ ap (xor_bytes (to_be_bytes w32 a)) f in
    let first = step (slice_index k 0) (bit_xor turned extra) n0 _ e0 (bytes-xor turned extra ∙ ap (λ x. xor_bytes x (to_be_bytes w32 extra)) et ∙ ap (xor_bytes (turned_word (block_of k))) ex) in
    let second = step (slice_index k 1) n0 n1 _ e1 first in
    let third = step (slice_index k 2) n1 n2 _ e2 second in
    block_from n0 n1 n2 n3 _ _ _ _ first second third (step (slice_index k 3) n2 n3 _ e3 third)

-- InvMixColumns of a sum is the sum of both (FIPS 197, section 5.3.5)
entry-xor : (p q r s a b c d a' b' c' d' : ℕ) → a < 256 → b < 256 → c < 256 → d < 256 → a' < 256 → b' < 256 → c' < 256 → d' < 256
    → sum4 (product p (bit_xor a a')) (product q (bit_xor b b')) (product r (bit_xor c c')) (product s (bit_xor d d'))
    ≡ bit_xor (sum4 (product p a) (product q b) (product r c) (product s d)) (sum4 (product p a') (product q b') (product r c') (product s d'))
unfolding sum4
entry-xor p q r s a b c d a' b' c' d' pa pb pc pd pa' pb' pc' pd' =
    rw (product_xor p a a' pa pa', product_xor q b b' pb pb', product_xor r c c' pc pc', product_xor s d d' pd pd')
    (paired (product p a) (product p a') (product q b) (product q b') (product r c) (product r c') (product s d) (product s d'))
  where
    paired : (w w' x x' y y' z z' : ℕ) → bit_xor (bit_xor (bit_xor w w') (bit_xor x x')) (bit_xor (bit_xor y y') (bit_xor z z'))
        ≡ bit_xor (bit_xor (bit_xor w x) (bit_xor y z)) (bit_xor (bit_xor w' x') (bit_xor y' z'))
    paired w w' x x' y y' z z' = same_from_bits _ _ (λ i. simp bit_at_xor (omega arith))

circulant-xor : (p q r s a b c d a' b' c' d' : ℕ) → a < 256 → b < 256 → c < 256 → d < 256 → a' < 256 → b' < 256 → c' < 256 → d' < 256
    → circulant p q r s (bit_xor a a') (bit_xor b b') (bit_xor c c') (bit_xor d d')
    ≡ xor_bytes (circulant p q r s a b c d) (circulant p q r s a' b' c' d')
unfolding circulant xor_bytes
circulant-xor p q r s a b c d a' b' c' d' pa pb pc pd pa' pb' pc' pd' =
    let e = λ (i j k l : ℕ). entry-xor i j k l a b c d a' b' c' d' pa pb pc pd pa' pb' pc' pd' in
    rw (e p q r s, e s p q r, e r s p q, e q r s p) refl

pub unmix_columns-xor : (a b : List ℕ) → IsBlock a → IsBlock b → unmix_columns (xor_bytes a b) ≡ xor_bytes (unmix_columns a) (unmix_columns b)
unfolding circulant xor_bytes
unmix_columns-xor a b ha hb =
    let la = ha.long in
    let lb = hb.long in
    let at = λ (i : ℕ) (lt : i < 16). xor_bytes-at a b i (omega arith) (omega arith) in
    let column = λ (i j k l : ℕ) (pi : i < 16) (pj : j < 16) (pk : k < 16) (pl : l < 16).
    at_four (slice_index (xor_bytes a b) i) (slice_index (xor_bytes a b) j) (slice_index (xor_bytes a b) k) (slice_index (xor_bytes a b) l)
    (bit_xor (slice_index a i) (slice_index b i)) (bit_xor (slice_index a j) (slice_index b j)) (bit_xor (slice_index a k) (slice_index b k)) (bit_xor (slice_index a l) (slice_index b l))
    (at i pi) (at j pj) (at k pk) (at l pl)
    ∙ circulant-xor 14 11 13 9 (slice_index a i) (slice_index a j) (slice_index a k) (slice_index a l) (slice_index b i) (slice_index b j) (slice_index b k) (slice_index b l)
    (ha.bytes i) (ha.bytes j) (ha.bytes k) (ha.bytes l) (hb.bytes i) (hb.bytes j) (hb.bytes k) (hb.bytes l) in
    joined _ _ _ _ _ _ _ _
    (column 0 1 2 3 (omega arith) (omega arith) (omega arith) (omega arith)) (column 4 5 6 7 (omega arith) (omega arith) (omega arith) (omega arith))
    (column 8 9 10 11 (omega arith) (omega arith) (omega arith) (omega arith)) (column 12 13 14 15 (omega arith) (omega arith) (omega arith) (omega arith))
  where
    at_four : (a b c d a' b' c' d' : ℕ) → a ≡ a' → b ≡ b' → c ≡ c' → d ≡ d' → circulant 14 11 13 9 a b c d ≡ circulant 14 11 13 9 a' b' c' d'
    at_four a b c d a' b' c' d' e f g h = rw (e, f, g, h) refl

    joined : (x0 x1 x2 x3 y0 y1 y2 y3 : List ℕ) → x0 ≡ y0 → x1 ≡ y1 → x2 ≡ y2 → x3 ≡ y3
        → x0 ++ (x1 ++ (x2 ++ x3)) ≡ y0 ++ (y1 ++ (y2 ++ y3))
    joined x0 x1 x2 x3 y0 y1 y2 y3 e0 e1 e2 e3 = rw (e0, e1, e2, e3) refl
