-- MixColumns and its inverse are each the other's inverse: the two circulants multiply to the identity.
use Rattle.std.proofs.Common.{◌≡◌, ℕ, ◌<◌, ◌==◌, [], ◌∷◌, true, refl, ap, ◌∙◌, arith}
use Rattle.std.specs.Prelude.{bit_xor}
use Rattle.std.proofs.lemmas.Nat.Bits.{same_from_bits, bit_at_xor}
use Rattle.ks_aes_cbc.specs.Field.{product, partial_product}
use Rattle.ks_aes_cbc.specs.Aes.{sum4, circulant}
use Rattle.ks_aes_cbc.proofs.Fields.{all_below, same_below, xor_byte, product_byte, product_xor}

pub sum4_byte : (a b c d : ℕ) → a < 256 → b < 256 → c < 256 → d < 256 → sum4 a b c d < 256
unfolding sum4
sum4_byte a b c d p q r s = xor_byte (bit_xor a b) (bit_xor c d) (xor_byte a b p q) (xor_byte c d r s)

-- a product with a sum of four
pub product_sum4 : (k a b c d : ℕ) → a < 256 → b < 256 → c < 256 → d < 256
    → product k (sum4 a b c d) ≡ sum4 (product k a) (product k b) (product k c) (product k d)
unfolding sum4
product_sum4 k a b c d p q r s =
    product_xor k (bit_xor a b) (bit_xor c d) (xor_byte a b p q) (xor_byte c d r s)
    ∙ ap (λ x. bit_xor x (product k (bit_xor c d))) (product_xor k a b p q)
    ∙ ap (bit_xor (bit_xor (product k a) (product k b))) (product_xor k c d r s)

-- four sums of four, by columns in place of rows
transposed : (a0 b0 c0 d0 a1 b1 c1 d1 a2 b2 c2 d2 a3 b3 c3 d3 : ℕ)
    → sum4 (sum4 a0 b0 c0 d0) (sum4 a1 b1 c1 d1) (sum4 a2 b2 c2 d2) (sum4 a3 b3 c3 d3)
    ≡ sum4 (sum4 a0 a1 a2 a3) (sum4 b0 b1 b2 b3) (sum4 c0 c1 c2 c3) (sum4 d0 d1 d2 d3)
unfolding sum4
transposed a0 b0 c0 d0 a1 b1 c1 d1 a2 b2 c2 d2 a3 b3 c3 d3 = same_from_bits _ _ (λ i. simp bit_at_xor (omega arith))

-- a sum of four may begin at its second
turned : (a b c d : ℕ) → sum4 a b c d ≡ sum4 b c d a
unfolding sum4
turned a b c d = same_from_bits _ _ (λ i. simp bit_at_xor (omega arith))

turned_twice : (a b c d : ℕ) → sum4 a b c d ≡ sum4 c d a b
turned_twice a b c d = turned a b c d ∙ turned b c d a

turned_thrice : (a b c d : ℕ) → sum4 a b c d ≡ sum4 d a b c
turned_thrice a b c d = turned_twice a b c d ∙ turned c d a b

alone_first : (x : ℕ) → sum4 x 0 0 0 ≡ x
unfolding sum4
alone_first x = same_from_bits _ _ (λ i. simp bit_at_xor (omega arith))

-- four products of one byte, twice multiplied
twice : (k0 k1 k2 k3 i0 i1 i2 i3 x : ℕ) → ℕ
twice k0 k1 k2 k3 i0 i1 i2 i3 x =
    sum4 (product k0 (product i0 x)) (product k1 (product i1 x)) (product k2 (product i2 x)) (product k3 (product i3 x))

-- one row of a product of two matrices, at a column of bytes
row : (k0 k1 k2 k3 i0 i1 i2 i3 j0 j1 j2 j3 m0 m1 m2 m3 n0 n1 n2 n3 a b c d : ℕ) → a < 256 → b < 256 → c < 256 → d < 256
    → sum4 (product k0 (sum4 (product i0 a) (product j0 b) (product m0 c) (product n0 d)))
    (product k1 (sum4 (product i1 a) (product j1 b) (product m1 c) (product n1 d)))
    (product k2 (sum4 (product i2 a) (product j2 b) (product m2 c) (product n2 d)))
    (product k3 (sum4 (product i3 a) (product j3 b) (product m3 c) (product n3 d)))
    ≡ sum4 (twice k0 k1 k2 k3 i0 i1 i2 i3 a) (twice k0 k1 k2 k3 j0 j1 j2 j3 b)
    (twice k0 k1 k2 k3 m0 m1 m2 m3 c) (twice k0 k1 k2 k3 n0 n1 n2 n3 d)
unfolding twice
row k0 k1 k2 k3 i0 i1 i2 i3 j0 j1 j2 j3 m0 m1 m2 m3 n0 n1 n2 n3 a b c d p q r s =
    let spread = λ (k i j m n : ℕ). product_sum4 k (product i a) (product j b) (product m c) (product n d)
    (product_byte i a p) (product_byte j b q) (product_byte m c r) (product_byte n d s) in
    rw (spread k0 i0 j0 m0 n0, spread k1 i1 j1 m1 n1, spread k2 i2 j2 m2 n2, spread k3 i3 j3 m3 n3)
    (transposed _ _ _ _ _ _ _ _ _ _ _ _ _ _ _ _)

-- the circulant of p q r s undoes that of p' q' r' s': the factors of one byte in a row
record Undoes (p q r s p' q' r' s' : ℕ) : Type 0 where
  first : (x : ℕ) → x < 256 → twice p q r s p' s' r' q' x ≡ x
  second : (x : ℕ) → x < 256 → twice p q r s q' p' s' r' x ≡ 0
  third : (x : ℕ) → x < 256 → twice p q r s r' q' p' s' x ≡ 0
  fourth : (x : ℕ) → x < 256 → twice p q r s s' r' q' p' x ≡ 0

circulant_back : (p q r s p' q' r' s' : ℕ) → Undoes p q r s p' q' r' s' → (a b c d : ℕ) → a < 256 → b < 256 → c < 256 → d < 256
    → circulant p q r s
    (sum4 (product p' a) (product q' b) (product r' c) (product s' d))
    (sum4 (product s' a) (product p' b) (product q' c) (product r' d))
    (sum4 (product r' a) (product s' b) (product p' c) (product q' d))
    (sum4 (product q' a) (product r' b) (product s' c) (product p' d))
    ≡ a ∷ b ∷ c ∷ d ∷ []
unfolding circulant twice
circulant_back p q r s p' q' r' s' back a b c d pa pb pc pd =
    let row0 = row p q r s p' s' r' q' q' p' s' r' r' q' p' s' s' r' q' p' a b c d pa pb pc pd in
    let row1 = row s p q r p' s' r' q' q' p' s' r' r' q' p' s' s' r' q' p' a b c d pa pb pc pd in
    let row2 = row r s p q p' s' r' q' q' p' s' r' r' q' p' s' s' r' q' p' a b c d pa pb pc pd in
    let row3 = row q r s p p' s' r' q' q' p' s' r' r' q' p' s' s' r' q' p' a b c d pa pb pc pd in
    let one0 = rw (back.first a pa, back.second b pb, back.third c pc, back.fourth d pd) at row0 in
    let one1 = rw (turned _ _ _ _ ∙ back.fourth a pa, turned _ _ _ _ ∙ back.first b pb, turned _ _ _ _ ∙ back.second c pc, turned _ _ _ _ ∙ back.third d pd) at row1 in
    let one2 = rw (turned_twice _ _ _ _ ∙ back.third a pa, turned_twice _ _ _ _ ∙ back.fourth b pb, turned_twice _ _ _ _ ∙ back.first c pc, turned_twice _ _ _ _ ∙ back.second d pd) at row2 in
    let one3 = rw (turned_thrice _ _ _ _ ∙ back.second a pa, turned_thrice _ _ _ _ ∙ back.third b pb, turned_thrice _ _ _ _ ∙ back.fourth c pc, turned_thrice _ _ _ _ ∙ back.first d pd) at row3 in
    rw (one0 ∙ alone_first a, one1 ∙ (turned 0 b 0 0 ∙ alone_first b), one2 ∙ (turned_twice 0 0 c 0 ∙ alone_first c), one3 ∙ (turned_thrice 0 0 0 d ∙ alone_first d)) refl

-- the matrix of MixColumns, and that of its inverse (FIPS 197, section 5.3.3)

unmixed_first_test : all_below (λ x. twice 14 11 13 9 2 1 1 3 x == x) 256 ≡ true
unfolding twice sum4 product partial_product
unmixed_first_test = refl

unmixed_second_test : all_below (λ x. twice 14 11 13 9 3 2 1 1 x == 0) 256 ≡ true
unfolding twice sum4 product partial_product
unmixed_second_test = refl

unmixed_third_test : all_below (λ x. twice 14 11 13 9 1 3 2 1 x == 0) 256 ≡ true
unfolding twice sum4 product partial_product
unmixed_third_test = refl

unmixed_fourth_test : all_below (λ x. twice 14 11 13 9 1 1 3 2 x == 0) 256 ≡ true
unfolding twice sum4 product partial_product
unmixed_fourth_test = refl

unmixed : Undoes 14 11 13 9 2 3 1 1
unmixed = record {
  first = same_below (λ x. twice 14 11 13 9 2 1 1 3 x) (λ x. x) 256 unmixed_first_test;
  second = same_below (λ x. twice 14 11 13 9 3 2 1 1 x) (λ x. 0) 256 unmixed_second_test;
  third = same_below (λ x. twice 14 11 13 9 1 3 2 1 x) (λ x. 0) 256 unmixed_third_test;
  fourth = same_below (λ x. twice 14 11 13 9 1 1 3 2 x) (λ x. 0) 256 unmixed_fourth_test;
}

mixed_first_test : all_below (λ x. twice 2 3 1 1 14 9 13 11 x == x) 256 ≡ true
unfolding twice sum4 product partial_product
mixed_first_test = refl

mixed_second_test : all_below (λ x. twice 2 3 1 1 11 14 9 13 x == 0) 256 ≡ true
unfolding twice sum4 product partial_product
mixed_second_test = refl

mixed_third_test : all_below (λ x. twice 2 3 1 1 13 11 14 9 x == 0) 256 ≡ true
unfolding twice sum4 product partial_product
mixed_third_test = refl

mixed_fourth_test : all_below (λ x. twice 2 3 1 1 9 13 11 14 x == 0) 256 ≡ true
unfolding twice sum4 product partial_product
mixed_fourth_test = refl

mixed : Undoes 2 3 1 1 14 11 13 9
mixed = record {
  first = same_below (λ x. twice 2 3 1 1 14 9 13 11 x) (λ x. x) 256 mixed_first_test;
  second = same_below (λ x. twice 2 3 1 1 11 14 9 13 x) (λ x. 0) 256 mixed_second_test;
  third = same_below (λ x. twice 2 3 1 1 13 11 14 9 x) (λ x. 0) 256 mixed_third_test;
  fourth = same_below (λ x. twice 2 3 1 1 9 13 11 14 x) (λ x. 0) 256 mixed_fourth_test;
}

-- the two ways, at a column
pub unmix-mix : (a b c d : ℕ) → a < 256 → b < 256 → c < 256 → d < 256
    → circulant 14 11 13 9
    (sum4 (product 2 a) (product 3 b) (product 1 c) (product 1 d))
    (sum4 (product 1 a) (product 2 b) (product 3 c) (product 1 d))
    (sum4 (product 1 a) (product 1 b) (product 2 c) (product 3 d))
    (sum4 (product 3 a) (product 1 b) (product 1 c) (product 2 d))
    ≡ a ∷ b ∷ c ∷ d ∷ []
unmix-mix a b c d p q r s = circulant_back 14 11 13 9 2 3 1 1 unmixed a b c d p q r s

pub mix-unmix : (a b c d : ℕ) → a < 256 → b < 256 → c < 256 → d < 256
    → circulant 2 3 1 1
    (sum4 (product 14 a) (product 11 b) (product 13 c) (product 9 d))
    (sum4 (product 9 a) (product 14 b) (product 11 c) (product 13 d))
    (sum4 (product 13 a) (product 9 b) (product 14 c) (product 11 d))
    (sum4 (product 11 a) (product 13 b) (product 9 c) (product 14 d))
    ≡ a ∷ b ∷ c ∷ d ∷ []
mix-unmix a b c d p q r s = circulant_back 2 3 1 1 14 11 13 9 mixed a b c d p q r s
