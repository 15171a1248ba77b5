-- The steps of a round and their inverses, on blocks.
use Rattle.std.proofs.Common.{◌≡◌, ℕ, ◌<◌, ◌==◌, nat_lt, List, [], ◌∷◌, ◌++◌, true, length, slice_index, refl, sym, ◌∙◌}
use Rattle.std.proofs.lemmas.List.{length-map}
use Rattle.ks_aes_cbc.specs.declared.tables.TheConstants.{SBOX, INVERSE_SBOX}
use Rattle.ks_aes_cbc.specs.Field.{product, partial_product, inverse, inverse_below}
use Rattle.ks_aes_cbc.specs.Aes.{AreBytes, IsBlock, sbox, affine_bits, sub_bytes, shift_rows, sum4, circulant, mix_column, mix_columns}
use Rattle.ks_aes_cbc.specs.Inverse.{unsbox, unsub_bytes, unshift_rows, unmix_column, unmix_columns}
use Rattle.ks_aes_cbc.proofs.Fields.{all_below, same_below, lt_below, product_byte}
use Rattle.ks_aes_cbc.proofs.Mixing.{sum4_byte, unmix-mix, mix-unmix}
use Rattle.ks_aes_cbc.proofs.BlockLemmas.{written_out, AreBytes-written, AreBytes-map, AreBytes-four, picked_block, map-undone}

-- the table of the S-box, computed for all bytes
sbox_test : all_below (λ b. slice_index SBOX b == sbox b) 256 ≡ true
unfolding sbox affine_bits inverse inverse_below product partial_product
sbox_test = refl

pub sbox_is : (b : ℕ) → b < 256 → slice_index SBOX b ≡ sbox b
sbox_is b lt = same_below (slice_index SBOX) sbox 256 sbox_test b lt

sbox_byte_test : all_below (λ b. nat_lt (slice_index SBOX b) 256) 256 ≡ true
sbox_byte_test = refl

pub sbox_byte : (b : ℕ) → b < 256 → sbox b < 256
sbox_byte b lt = rw (← sbox_is b lt) (lt_below (slice_index SBOX) 256 256 sbox_byte_test b lt)

unsbox_byte_test : all_below (λ b. nat_lt (slice_index INVERSE_SBOX b) 256) 256 ≡ true
unsbox_byte_test = refl

pub unsbox_byte : (b : ℕ) → b < 256 → unsbox b < 256
unsbox_byte b lt = lt_below (slice_index INVERSE_SBOX) 256 256 unsbox_byte_test b lt

unsbox-sbox_test : all_below (λ b. slice_index INVERSE_SBOX (slice_index SBOX b) == b) 256 ≡ true
unsbox-sbox_test = refl

pub unsbox-sbox : (b : ℕ) → b < 256 → unsbox (sbox b) ≡ b
unsbox-sbox b lt = rw (← sbox_is b lt) (same_below (λ x. slice_index INVERSE_SBOX (slice_index SBOX x)) (λ x. x) 256 unsbox-sbox_test b lt)

sbox-unsbox_test : all_below (λ b. slice_index SBOX (slice_index INVERSE_SBOX b) == b) 256 ≡ true
sbox-unsbox_test = refl

pub sbox-unsbox : (b : ℕ) → b < 256 → sbox (unsbox b) ≡ b
sbox-unsbox b lt =
    sym (sbox_is (unsbox b) (unsbox_byte b lt))
    ∙ same_below (λ x. slice_index SBOX (slice_index INVERSE_SBOX x)) (λ x. x) 256 sbox-unsbox_test b lt

-- SubBytes
pub sub_block : (s : List ℕ) → IsBlock s → IsBlock (sub_bytes s)
sub_block s h = record { long = length-map s sbox ∙ h.long; bytes = AreBytes-map sbox sbox_byte s h.bytes }

pub unsub_block : (s : List ℕ) → IsBlock s → IsBlock (unsub_bytes s)
unsub_block s h = record { long = length-map s unsbox ∙ h.long; bytes = AreBytes-map unsbox unsbox_byte s h.bytes }

pub unsub-sub : (s : List ℕ) → IsBlock s → unsub_bytes (sub_bytes s) ≡ s
unsub-sub s h = map-undone sbox unsbox unsbox-sbox s h.bytes

pub sub-unsub : (s : List ℕ) → IsBlock s → sub_bytes (unsub_bytes s) ≡ s
sub-unsub s h = map-undone unsbox sbox sbox-unsbox s h.bytes

-- ShiftRows, and its inverse (FIPS 197, section 5.3.1)
pub shift_block : (s : List ℕ) → IsBlock s → IsBlock (shift_rows s)
shift_block s h = picked_block s (0 ∷ 5 ∷ 10 ∷ 15 ∷ 4 ∷ 9 ∷ 14 ∷ 3 ∷ 8 ∷ 13 ∷ 2 ∷ 7 ∷ 12 ∷ 1 ∷ 6 ∷ 11 ∷ []) h.bytes refl

pub unshift_block : (s : List ℕ) → IsBlock s → IsBlock (unshift_rows s)
unshift_block s h = picked_block s (0 ∷ 13 ∷ 10 ∷ 7 ∷ 4 ∷ 1 ∷ 14 ∷ 11 ∷ 8 ∷ 5 ∷ 2 ∷ 15 ∷ 12 ∷ 9 ∷ 6 ∷ 3 ∷ []) h.bytes refl

pub unshift-shift : (s : List ℕ) → IsBlock s → unshift_rows (shift_rows s) ≡ s
unshift-shift s h = written_out s h.long

pub shift-unshift : (s : List ℕ) → IsBlock s → shift_rows (unshift_rows s) ≡ s
shift-unshift s h = written_out s h.long

-- MixColumns, and its inverse (FIPS 197, section 5.3.3)
entry_byte : (p q r s a b c d : ℕ) → a < 256 → b < 256 → c < 256 → d < 256
    → sum4 (product p a) (product q b) (product r c) (product s d) < 256
entry_byte p q r s a b c d pa pb pc pd =
    sum4_byte _ _ _ _ (product_byte p a pa) (product_byte q b pb) (product_byte r c pc) (product_byte s d pd)

circulant_bytes : (p q r s a b c d : ℕ) → a < 256 → b < 256 → c < 256 → d < 256 → AreBytes (circulant p q r s a b c d)
unfolding circulant
circulant_bytes p q r s a b c d pa pb pc pd =
    AreBytes-written (circulant p q r s a b c d) (
      entry_byte p q r s a b c d pa pb pc pd,
      (
        entry_byte s p q r a b c d pa pb pc pd,
        (entry_byte r s p q a b c d pa pb pc pd, (entry_byte q r s p a b c d pa pb pc pd, tt)),
      ),
    )

circulant_at : (p q r s : ℕ) (block : List ℕ) (i j k l : ℕ) → AreBytes block
    → AreBytes (circulant p q r s (slice_index block i) (slice_index block j) (slice_index block k) (slice_index block l))
circulant_at p q r s block i j k l h = circulant_bytes p q r s _ _ _ _ (h i) (h j) (h k) (h l)

pub mix_block : (s : List ℕ) → IsBlock s → IsBlock (mix_columns s)
unfolding circulant
mix_block s h = record {
  long = refl;
  bytes = AreBytes-four (mix_column s 0) (mix_column s 1) (mix_column s 2) (mix_column s 3)
      (circulant_at 2 3 1 1 s 0 1 2 3 h.bytes) (circulant_at 2 3 1 1 s 4 5 6 7 h.bytes)
      (circulant_at 2 3 1 1 s 8 9 10 11 h.bytes) (circulant_at 2 3 1 1 s 12 13 14 15 h.bytes);
}

pub unmix_block : (s : List ℕ) → IsBlock s → IsBlock (unmix_columns s)
unfolding circulant
unmix_block s h = record {
  long = refl;
  bytes = AreBytes-four (unmix_column s 0) (unmix_column s 1) (unmix_column s 2) (unmix_column s 3)
      (circulant_at 14 11 13 9 s 0 1 2 3 h.bytes) (circulant_at 14 11 13 9 s 4 5 6 7 h.bytes)
      (circulant_at 14 11 13 9 s 8 9 10 11 h.bytes) (circulant_at 14 11 13 9 s 12 13 14 15 h.bytes);
}

-- four columns in turn
joined : (s c0 c1 c2 c3 : List ℕ) → length s ≡ 16
    → c0 ≡ slice_index s 0 ∷ slice_index s 1 ∷ slice_index s 2 ∷ slice_index s 3 ∷ []
    → c1 ≡ slice_index s 4 ∷ slice_index s 5 ∷ slice_index s 6 ∷ slice_index s 7 ∷ []
    → c2 ≡ slice_index s 8 ∷ slice_index s 9 ∷ slice_index s 10 ∷ slice_index s 11 ∷ []
    → c3 ≡ slice_index s 12 ∷ slice_index s 13 ∷ slice_index s 14 ∷ slice_index s 15 ∷ []
    → c0 ++ (c1 ++ (c2 ++ c3)) ≡ s
joined s c0 c1 c2 c3 long e0 e1 e2 e3 = rw (e0, e1, e2, e3) (written_out s long)

pub unmix-mixed : (s : List ℕ) → IsBlock s → unmix_columns (mix_columns s) ≡ s
unfolding circulant
unmix-mixed s h =
    let e = λ (i j k l : ℕ). unmix-mix (slice_index s i) (slice_index s j) (slice_index s k) (slice_index s l) (h.bytes i) (h.bytes j) (h.bytes k) (h.bytes l) in
    joined s _ _ _ _ h.long (e 0 1 2 3) (e 4 5 6 7) (e 8 9 10 11) (e 12 13 14 15)

pub mix-unmixed : (s : List ℕ) → IsBlock s → mix_columns (unmix_columns s) ≡ s
unfolding circulant
mix-unmixed s h =
    let e = λ (i j k l : ℕ). mix-unmix (slice_index s i) (slice_index s j) (slice_index s k) (slice_index s l) (h.bytes i) (h.bytes j) (h.bytes k) (h.bytes l) in
    joined s _ _ _ _ h.long (e 0 1 2 3) (e 4 5 6 7) (e 8 9 10 11) (e 12 13 14 15)
