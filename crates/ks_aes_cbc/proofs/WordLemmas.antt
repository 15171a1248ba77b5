-- Words of four bytes: their sums, and what the tables of the rounds hold.
use Rattle.std.proofs.Common.{◌≡◌, ℕ, ◌/◌, ◌%◌, ◌^◌, ◌<◌, ◌==◌, Bool, true, List, [], ◌∷◌, slice_index, refl, ap, ◌∙◌, arith}
use Rattle.std.specs.Prelude.{bit_xor}
use Rattle.std.specs.Int.{w32, to_be_bytes, from_be_bytes, byte_at}
use Rattle.std.specs.Str.{bytes_eq}
use Rattle.std.proofs.lemmas.Nat.{xor_shr, xor_mod, be_bytes_4}
use Rattle.std.proofs.lemmas.Slice.Eq.{bytes_eq-Decides}
use Rattle.ks_aes_cbc.specs.declared.tables.TheConstants.{SBOX, INVERSE_SBOX, ROUND_CONSTANTS, SEAL_ROW_0, SEAL_ROW_1, SEAL_ROW_2, SEAL_ROW_3, OPEN_ROW_0, OPEN_ROW_1, OPEN_ROW_2, OPEN_ROW_3}
use Rattle.ks_aes_cbc.specs.Field.{product, partial_product}
use Rattle.ks_aes_cbc.specs.Aes.{AreBytes, sbox, sum4, circulant, xor_bytes, round_constant}
use Rattle.ks_aes_cbc.specs.Inverse.{unsbox}
use Rattle.ks_aes_cbc.proofs.Fields.{all_below, all_below_at, same_below}
use Rattle.ks_aes_cbc.proofs.BlockLemmas.{AreBytes-written}
use Rattle.ks_aes_cbc.proofs.Steps.{sbox_is, sbox_byte, unsbox_byte, unsbox-sbox}

-- the bytes of a sum
byte-xor : (k a b : ℕ) → bit_xor a b / 2 ^ k % 256 ≡ bit_xor (a / 2 ^ k % 256) (b / 2 ^ k % 256)
byte-xor k a b = ap (λ x. x % 256) (xor_shr a b k) ∙ xor_mod (a / 2 ^ k) (b / 2 ^ k) 8

pub bytes-xor : (a b : ℕ) → to_be_bytes w32 (bit_xor a b) ≡ xor_bytes (to_be_bytes w32 a) (to_be_bytes w32 b)
unfolding xor_bytes
bytes-xor a b = rw (byte-xor 24 a b, byte-xor 16 a b, byte-xor 8 a b, xor_mod a b 8) refl

-- a byte times each entry of a column
abbrev pub column_of : (p q r s x : ℕ) → List ℕ
column_of p q r s x = product p x ∷ product q x ∷ product r x ∷ product s x ∷ []

-- a table holds the products of f's byte
abbrev holds_products : (p q r s : ℕ) (t f : List ℕ) → ℕ → Bool
holds_products p q r s t f x = bytes_eq (to_be_bytes w32 (slice_index t x)) (column_of p q r s (slice_index f x))

table_is : (p q r s : ℕ) (t f : List ℕ) → all_below (holds_products p q r s t f) 256 ≡ true → (x : ℕ) → x < 256
    → to_be_bytes w32 (slice_index t x) ≡ column_of p q r s (slice_index f x)
table_is p q r s t f test x lt =
    (bytes_eq-Decides (to_be_bytes w32 (slice_index t x)) (column_of p q r s (slice_index f x))).0 (all_below_at (holds_products p q r s t f) 256 x test lt)

seal_row_0_test : all_below (holds_products 2 1 1 3 SEAL_ROW_0 SBOX) 256 ≡ true
unfolding product partial_product
seal_row_0_test = refl

pub seal_row_0_is : (x : ℕ) → x < 256 → to_be_bytes w32 (slice_index SEAL_ROW_0 x) ≡ column_of 2 1 1 3 (sbox x)
seal_row_0_is x lt = table_is 2 1 1 3 SEAL_ROW_0 SBOX seal_row_0_test x lt ∙ ap (column_of 2 1 1 3) (sbox_is x lt)

seal_row_1_test : all_below (holds_products 3 2 1 1 SEAL_ROW_1 SBOX) 256 ≡ true
unfolding product partial_product
seal_row_1_test = refl

pub seal_row_1_is : (x : ℕ) → x < 256 → to_be_bytes w32 (slice_index SEAL_ROW_1 x) ≡ column_of 3 2 1 1 (sbox x)
seal_row_1_is x lt = table_is 3 2 1 1 SEAL_ROW_1 SBOX seal_row_1_test x lt ∙ ap (column_of 3 2 1 1) (sbox_is x lt)

seal_row_2_test : all_below (holds_products 1 3 2 1 SEAL_ROW_2 SBOX) 256 ≡ true
unfolding product partial_product
seal_row_2_test = refl

pub seal_row_2_is : (x : ℕ) → x < 256 → to_be_bytes w32 (slice_index SEAL_ROW_2 x) ≡ column_of 1 3 2 1 (sbox x)
seal_row_2_is x lt = table_is 1 3 2 1 SEAL_ROW_2 SBOX seal_row_2_test x lt ∙ ap (column_of 1 3 2 1) (sbox_is x lt)

seal_row_3_test : all_below (holds_products 1 1 3 2 SEAL_ROW_3 SBOX) 256 ≡ true
unfolding product partial_product
seal_row_3_test = refl

pub seal_row_3_is : (x : ℕ) → x < 256 → to_be_bytes w32 (slice_index SEAL_ROW_3 x) ≡ column_of 1 1 3 2 (sbox x)
seal_row_3_is x lt = table_is 1 1 3 2 SEAL_ROW_3 SBOX seal_row_3_test x lt ∙ ap (column_of 1 1 3 2) (sbox_is x lt)

open_row_0_test : all_below (holds_products 14 9 13 11 OPEN_ROW_0 INVERSE_SBOX) 256 ≡ true
unfolding product partial_product
open_row_0_test = refl

pub open_row_0_is : (x : ℕ) → x < 256 → to_be_bytes w32 (slice_index OPEN_ROW_0 x) ≡ column_of 14 9 13 11 (unsbox x)
open_row_0_is x lt = table_is 14 9 13 11 OPEN_ROW_0 INVERSE_SBOX open_row_0_test x lt

open_row_1_test : all_below (holds_products 11 14 9 13 OPEN_ROW_1 INVERSE_SBOX) 256 ≡ true
unfolding product partial_product
open_row_1_test = refl

pub open_row_1_is : (x : ℕ) → x < 256 → to_be_bytes w32 (slice_index OPEN_ROW_1 x) ≡ column_of 11 14 9 13 (unsbox x)
open_row_1_is x lt = table_is 11 14 9 13 OPEN_ROW_1 INVERSE_SBOX open_row_1_test x lt

open_row_2_test : all_below (holds_products 13 11 14 9 OPEN_ROW_2 INVERSE_SBOX) 256 ≡ true
unfolding product partial_product
open_row_2_test = refl

pub open_row_2_is : (x : ℕ) → x < 256 → to_be_bytes w32 (slice_index OPEN_ROW_2 x) ≡ column_of 13 11 14 9 (unsbox x)
open_row_2_is x lt = table_is 13 11 14 9 OPEN_ROW_2 INVERSE_SBOX open_row_2_test x lt

open_row_3_test : all_below (holds_products 9 13 11 14 OPEN_ROW_3 INVERSE_SBOX) 256 ≡ true
unfolding product partial_product
open_row_3_test = refl

pub open_row_3_is : (x : ℕ) → x < 256 → to_be_bytes w32 (slice_index OPEN_ROW_3 x) ≡ column_of 9 13 11 14 (unsbox x)
open_row_3_is x lt = table_is 9 13 11 14 OPEN_ROW_3 INVERSE_SBOX open_row_3_test x lt

round_constant_test : all_below (λ n. slice_index ROUND_CONSTANTS n == round_constant n) 10 ≡ true
unfolding round_constant
round_constant_test = refl

pub round_constant_is : (n : ℕ) → n < 10 → slice_index ROUND_CONSTANTS n ≡ round_constant n
round_constant_is n lt = same_below (slice_index ROUND_CONSTANTS) round_constant 10 round_constant_test n lt

-- four words of products make a column times a matrix
pub mixed_words : (p q r s a b c d t0 t1 t2 t3 : ℕ) → to_be_bytes w32 t0 ≡ column_of p s r q a → to_be_bytes w32 t1 ≡ column_of q p s r b
    → to_be_bytes w32 t2 ≡ column_of r q p s c → to_be_bytes w32 t3 ≡ column_of s r q p d
    → to_be_bytes w32 (bit_xor (bit_xor t0 t1) (bit_xor t2 t3)) ≡ circulant p q r s a b c d
unfolding circulant sum4 xor_bytes
mixed_words p q r s a b c d t0 t1 t2 t3 e0 e1 e2 e3 =
    bytes-xor (bit_xor t0 t1) (bit_xor t2 t3)
    ∙ ap (λ x. xor_bytes x (to_be_bytes w32 (bit_xor t2 t3))) (bytes-xor t0 t1 ∙ ap (λ x. xor_bytes x (to_be_bytes w32 t1)) e0 ∙ ap (xor_bytes (column_of p s r q a)) e1)
    ∙ ap (xor_bytes (xor_bytes (column_of p s r q a) (column_of q p s r b))) (bytes-xor t2 t3 ∙ ap (λ x. xor_bytes x (to_be_bytes w32 t3)) e2 ∙ ap (xor_bytes (column_of r q p s c)) e3)

-- the same, with a word of a round key added
pub mixed_words_added : (p q r s a b c d t0 t1 t2 t3 key : ℕ) → to_be_bytes w32 t0 ≡ column_of p s r q a → to_be_bytes w32 t1 ≡ column_of q p s r b
    → to_be_bytes w32 t2 ≡ column_of r q p s c → to_be_bytes w32 t3 ≡ column_of s r q p d
    → to_be_bytes w32 (bit_xor (bit_xor (bit_xor t0 t1) (bit_xor t2 t3)) key) ≡ xor_bytes (circulant p q r s a b c d) (to_be_bytes w32 key)
mixed_words_added p q r s a b c d t0 t1 t2 t3 key e0 e1 e2 e3 =
    bytes-xor (bit_xor (bit_xor t0 t1) (bit_xor t2 t3)) key
    ∙ ap (λ x. xor_bytes x (to_be_bytes w32 key)) (mixed_words p q r s a b c d t0 t1 t2 t3 e0 e1 e2 e3)

low : (n : ℕ) → n % 256 < 256
low n = omega arith

pub AreBytes-word : (n : ℕ) → AreBytes (to_be_bytes w32 n)
AreBytes-word n = AreBytes-written (to_be_bytes w32 n) (low (n / 16777216), (low (n / 65536), (low (n / 256), (low n, tt))))

-- a column of a round, and of an inverse round
pub sealed_word : (a b c d key : ℕ)
    → to_be_bytes w32 (bit_xor (bit_xor (bit_xor (slice_index SEAL_ROW_0 (byte_at 3 a)) (slice_index SEAL_ROW_1 (byte_at 2 b)))
    (bit_xor (slice_index SEAL_ROW_2 (byte_at 1 c)) (slice_index SEAL_ROW_3 (byte_at 0 d)))) key)
    ≡ xor_bytes (circulant 2 3 1 1 (sbox (byte_at 3 a)) (sbox (byte_at 2 b)) (sbox (byte_at 1 c)) (sbox (byte_at 0 d))) (to_be_bytes w32 key)
sealed_word a b c d key =
    mixed_words_added 2 3 1 1 (sbox (byte_at 3 a)) (sbox (byte_at 2 b)) (sbox (byte_at 1 c)) (sbox (byte_at 0 d))
    (slice_index SEAL_ROW_0 (byte_at 3 a)) (slice_index SEAL_ROW_1 (byte_at 2 b)) (slice_index SEAL_ROW_2 (byte_at 1 c)) (slice_index SEAL_ROW_3 (byte_at 0 d)) key
    (seal_row_0_is (byte_at 3 a) (low (a / 16777216))) (seal_row_1_is (byte_at 2 b) (low (b / 65536)))
    (seal_row_2_is (byte_at 1 c) (low (c / 256))) (seal_row_3_is (byte_at 0 d) (low d))

pub opened_word : (a b c d key : ℕ)
    → to_be_bytes w32 (bit_xor (bit_xor (bit_xor (slice_index OPEN_ROW_0 (byte_at 3 a)) (slice_index OPEN_ROW_1 (byte_at 2 b)))
    (bit_xor (slice_index OPEN_ROW_2 (byte_at 1 c)) (slice_index OPEN_ROW_3 (byte_at 0 d)))) key)
    ≡ xor_bytes (circulant 14 11 13 9 (unsbox (byte_at 3 a)) (unsbox (byte_at 2 b)) (unsbox (byte_at 1 c)) (unsbox (byte_at 0 d))) (to_be_bytes w32 key)
opened_word a b c d key =
    mixed_words_added 14 11 13 9 (unsbox (byte_at 3 a)) (unsbox (byte_at 2 b)) (unsbox (byte_at 1 c)) (unsbox (byte_at 0 d))
    (slice_index OPEN_ROW_0 (byte_at 3 a)) (slice_index OPEN_ROW_1 (byte_at 2 b)) (slice_index OPEN_ROW_2 (byte_at 1 c)) (slice_index OPEN_ROW_3 (byte_at 0 d)) key
    (open_row_0_is (byte_at 3 a) (low (a / 16777216))) (open_row_1_is (byte_at 2 b) (low (b / 65536)))
    (open_row_2_is (byte_at 1 c) (low (c / 256))) (open_row_3_is (byte_at 0 d) (low d))

-- the tables of the inverse rounds at the S-box: the byte itself, times a column
unmixed_row : (p q r s x : ℕ) (t : List ℕ) → x < 256
    → ((y : ℕ) → y < 256 → to_be_bytes w32 (slice_index t y) ≡ column_of p q r s (unsbox y))
    → to_be_bytes w32 (slice_index t (slice_index SBOX x)) ≡ column_of p q r s x
unmixed_row p q r s x t lt is =
    ap (λ y. to_be_bytes w32 (slice_index t y)) (sbox_is x lt) ∙ is (sbox x) (sbox_byte x lt) ∙ ap (column_of p q r s) (unsbox-sbox x lt)

pub unmixed_word : (n : ℕ)
    → to_be_bytes w32 (bit_xor (bit_xor (slice_index OPEN_ROW_0 (slice_index SBOX (byte_at 3 n))) (slice_index OPEN_ROW_1 (slice_index SBOX (byte_at 2 n))))
    (bit_xor (slice_index OPEN_ROW_2 (slice_index SBOX (byte_at 1 n))) (slice_index OPEN_ROW_3 (slice_index SBOX (byte_at 0 n)))))
    ≡ circulant 14 11 13 9 (byte_at 3 n) (byte_at 2 n) (byte_at 1 n) (byte_at 0 n)
unmixed_word n =
    mixed_words 14 11 13 9 (byte_at 3 n) (byte_at 2 n) (byte_at 1 n) (byte_at 0 n)
    (slice_index OPEN_ROW_0 (slice_index SBOX (byte_at 3 n))) (slice_index OPEN_ROW_1 (slice_index SBOX (byte_at 2 n)))
    (slice_index OPEN_ROW_2 (slice_index SBOX (byte_at 1 n))) (slice_index OPEN_ROW_3 (slice_index SBOX (byte_at 0 n)))
    (unmixed_row 14 9 13 11 (byte_at 3 n) OPEN_ROW_0 (low (n / 16777216)) open_row_0_is)
    (unmixed_row 11 14 9 13 (byte_at 2 n) OPEN_ROW_1 (low (n / 65536)) open_row_1_is)
    (unmixed_row 13 11 14 9 (byte_at 1 n) OPEN_ROW_2 (low (n / 256)) open_row_2_is)
    (unmixed_row 9 13 11 14 (byte_at 0 n) OPEN_ROW_3 (low n) open_row_3_is)

-- a word whose bytes are given
pub from_bytes : (a b c d n : ℕ) → a < 256 → b < 256 → c < 256 → d < 256 → n ≡ from_be_bytes w32 (a ∷ b ∷ c ∷ d ∷ [])
    → to_be_bytes w32 n ≡ a ∷ b ∷ c ∷ d ∷ []
from_bytes a b c d n pa pb pc pd e = be_bytes_4 (a ∷ b ∷ c ∷ d ∷ []) n refl (AreBytes-written (a ∷ b ∷ c ∷ d ∷ []) (pa, (pb, (pc, (pd, tt))))) e

-- the word of four bytes of the S-box
pub sbox_word : (a b c d n : ℕ) → a < 256 → b < 256 → c < 256 → d < 256
    → n ≡ from_be_bytes w32 (slice_index SBOX a ∷ slice_index SBOX b ∷ slice_index SBOX c ∷ slice_index SBOX d ∷ [])
    → to_be_bytes w32 n ≡ sbox a ∷ sbox b ∷ sbox c ∷ sbox d ∷ []
sbox_word a b c d n pa pb pc pd e =
    from_bytes (sbox a) (sbox b) (sbox c) (sbox d) n (sbox_byte a pa) (sbox_byte b pb) (sbox_byte c pc) (sbox_byte d pd)
    (rw (sbox_is a pa, sbox_is b pb, sbox_is c pc, sbox_is d pd) at e)

pub last_sealed_word : (a b c d n key : ℕ)
    → n ≡ from_be_bytes w32 (slice_index SBOX (byte_at 3 a) ∷ slice_index SBOX (byte_at 2 b) ∷ slice_index SBOX (byte_at 1 c) ∷ slice_index SBOX (byte_at 0 d) ∷ [])
    → to_be_bytes w32 (bit_xor n key) ≡ xor_bytes (sbox (byte_at 3 a) ∷ sbox (byte_at 2 b) ∷ sbox (byte_at 1 c) ∷ sbox (byte_at 0 d) ∷ []) (to_be_bytes w32 key)
last_sealed_word a b c d n key e =
    bytes-xor n key ∙ ap (λ x. xor_bytes x (to_be_bytes w32 key))
    (sbox_word (byte_at 3 a) (byte_at 2 b) (byte_at 1 c) (byte_at 0 d) n (low (a / 16777216)) (low (b / 65536)) (low (c / 256)) (low d) e)

pub last_opened_word : (a b c d n key : ℕ)
    → n ≡ from_be_bytes w32 (unsbox (byte_at 3 a) ∷ unsbox (byte_at 2 b) ∷ unsbox (byte_at 1 c) ∷ unsbox (byte_at 0 d) ∷ [])
    → to_be_bytes w32 (bit_xor n key) ≡ xor_bytes (unsbox (byte_at 3 a) ∷ unsbox (byte_at 2 b) ∷ unsbox (byte_at 1 c) ∷ unsbox (byte_at 0 d) ∷ []) (to_be_bytes w32 key)
last_opened_word a b c d n key e =
    bytes-xor n key ∙ ap (λ x. xor_bytes x (to_be_bytes w32 key))
    (from_bytes (unsbox (byte_at 3 a)) (unsbox (byte_at 2 b)) (unsbox (byte_at 1 c)) (unsbox (byte_at 0 d)) n
    (unsbox_byte (byte_at 3 a) (low (a / 16777216))) (unsbox_byte (byte_at 2 b) (low (b / 65536)))
    (unsbox_byte (byte_at 1 c) (low (c / 256))) (unsbox_byte (byte_at 0 d) (low d)) e)
