-- The field of bytes: products are bytes, and a product with a sum is the sum of the products. Facts
-- about one byte are tests that a check computes for all 256.
use Rattle.std.proofs.Common.{◌≡◌, ℕ, zero, suc, ◌+◌, ◌*◌, ◌/◌, ◌%◌, ◌^◌, ◌==◌, ◌<◌, nat_lt, Bool, true, ◌&&◌, refl, sym, ap, ◌∙◌, arith, inl, inr}
use Rattle.std.specs.Prelude.{bit_xor}
use Rattle.std.proofs.lemmas.Bool.{and_parts, cases_lt, eqb-true, ltb-true}
use Rattle.std.proofs.lemmas.Nat.{xor_lt, xor_shr, xor_block}
use Rattle.std.proofs.lemmas.Nat.Bits.{same_from_bits, bit_at_xor}
use lib.Bits.{xor_assoc, xor_self, xor_zero_r}
use Rattle.ks_aes_cbc.specs.Field.{times_x, partial_product, product}

-- a test holds of each number below n
abbrev pub all_below : (ℕ → Bool) → ℕ → Bool
all_below p zero = true
all_below p (suc n) = p n && all_below p n

pub all_below_at : (p : ℕ → Bool) (n k : ℕ) → all_below p n ≡ true → k < n → p k ≡ true
all_below_at p zero k h lt = absurd (omega arith)
all_below_at p (suc n) k h lt =
    let parts = and_parts (p n) (all_below p n) h in
    elim (cases_lt k n) [
      | inl below ↦ all_below_at p n k parts.1 below
      | inr top ↦
          let e : k ≡ n = omega arith in
          rw e parts.0
    ]

pub same_below : (f g : ℕ → ℕ) (n : ℕ) → all_below (λ x. f x == g x) n ≡ true → (x : ℕ) → x < n → f x ≡ g x
same_below f g n h x lt = eqb-true (f x) (g x) (all_below_at (λ y. f y == g y) n x h lt)

pub lt_below : (f : ℕ → ℕ) (m n : ℕ) → all_below (λ x. nat_lt (f x) m) n ≡ true → (x : ℕ) → x < n → f x < m
lt_below f m n h x lt = ltb-true (f x) m (all_below_at (λ y. nat_lt (f y) m) n x h lt)

-- what is added twice is gone
pub xor_cancel : (a b : ℕ) → bit_xor (bit_xor a b) b ≡ a
xor_cancel a b = xor_assoc a b b ∙ ap (bit_xor a) (xor_self b) ∙ xor_zero_r a

pub xor_byte : (a b : ℕ) → a < 256 → b < 256 → bit_xor a b < 256
xor_byte a b p q = xor_lt 8 a b p q

-- sums of four, in pairs
pub xor_pairs : (a b c d : ℕ) → bit_xor (bit_xor a b) (bit_xor c d) ≡ bit_xor (bit_xor a c) (bit_xor b d)
xor_pairs a b c d = same_from_bits _ _ (λ i. simp bit_at_xor (omega arith))

times_x_test : all_below (λ b. nat_lt (times_x b) 256) 256 ≡ true
times_x_test = refl

pub times_x_byte : (b : ℕ) → b < 256 → times_x b < 256
times_x_byte b lt = lt_below times_x 256 256 times_x_test b lt

-- a bit times a sum
bit_times : (i a b : ℕ) → i < 2 → i * bit_xor a b ≡ bit_xor (i * a) (i * b)
bit_times zero a b lt =
    let l : 0 * a ≡ 0 = omega arith in
    let r : 0 * b ≡ 0 = omega arith in
    rw (l, r) (omega arith)
bit_times (suc zero) a b lt =
    let l : 1 * a ≡ a = omega arith in
    let r : 1 * b ≡ b = omega arith in
    rw (l, r) (omega arith)
bit_times (suc (suc i)) a b lt = absurd (omega arith)

-- the modulus, times the sum of two bits
modulus_times : (i j : ℕ) → i < 2 → j < 2 → 0x11b * bit_xor i j ≡ bit_xor (0x11b * i) (0x11b * j)
modulus_times zero zero p q = refl
modulus_times zero (suc zero) p q = refl
modulus_times (suc zero) zero p q = refl
modulus_times (suc zero) (suc zero) p q = refl
modulus_times (suc (suc i)) j p q = absurd (omega arith)
modulus_times zero (suc (suc j)) p q = absurd (omega arith)
modulus_times (suc zero) (suc (suc j)) p q = absurd (omega arith)

double_xor : (a b : ℕ) → 2 * bit_xor a b ≡ bit_xor (2 * a) (2 * b)
double_xor a b =
    let e = xor_block 1 a b 0 0 (omega arith) (omega arith) in
    let l : a * 2 ^ 1 + 0 ≡ 2 * a = omega arith in
    let r : b * 2 ^ 1 + 0 ≡ 2 * b = omega arith in
    let s : bit_xor a b * 2 ^ 1 + bit_xor 0 0 ≡ 2 * bit_xor a b = omega (arith, xor_self 0) in
    sym s ∙ sym e ∙ ap (λ x. bit_xor x (b * 2 ^ 1 + 0)) l ∙ ap (bit_xor (2 * a)) r

pub times_x_xor : (a b : ℕ) → a < 256 → b < 256 → times_x (bit_xor a b) ≡ bit_xor (times_x a) (times_x b)
times_x_xor a b p q =
    let top : bit_xor a b / 128 ≡ bit_xor (a / 128) (b / 128) = xor_shr a b 7 in
    let lifted : 0x11b * (bit_xor a b / 128) ≡ bit_xor (0x11b * (a / 128)) (0x11b * (b / 128)) =
    ap (λ x. 0x11b * x) top ∙ modulus_times (a / 128) (b / 128) (omega arith) (omega arith) in
    ap (λ x. bit_xor x (0x11b * (bit_xor a b / 128))) (double_xor a b)
    ∙ ap (bit_xor (bit_xor (2 * a) (2 * b))) lifted
    ∙ xor_pairs (2 * a) (2 * b) (0x11b * (a / 128)) (0x11b * (b / 128))

partial_product_byte : (n k a : ℕ) → a < 256 → partial_product n k a < 256
unfolding partial_product
partial_product_byte zero k a p = omega arith
partial_product_byte (suc n) k a p =
    xor_byte (k % 2 * a) (partial_product n (k / 2) (times_x a)) (bit_byte (k % 2) (omega arith))
    (partial_product_byte n (k / 2) (times_x a) (times_x_byte a p))
  where
    bit_byte : (i : ℕ) → i < 2 → i * a < 256
    bit_byte zero lt = omega arith
    bit_byte (suc zero) lt = omega arith
    bit_byte (suc (suc i)) lt = absurd (omega arith)

partial_product_xor : (n k a b : ℕ) → a < 256 → b < 256 → partial_product n k (bit_xor a b) ≡ bit_xor (partial_product n k a) (partial_product n k b)
unfolding partial_product
partial_product_xor zero k a b p q = sym (xor_self 0)
partial_product_xor (suc n) k a b p q =
    let rest : partial_product n (k / 2) (times_x (bit_xor a b)) ≡ bit_xor (partial_product n (k / 2) (times_x a)) (partial_product n (k / 2) (times_x b)) =
    ap (partial_product n (k / 2)) (times_x_xor a b p q)
    ∙ partial_product_xor n (k / 2) (times_x a) (times_x b) (times_x_byte a p) (times_x_byte b q) in
    ap (λ x. bit_xor x (partial_product n (k / 2) (times_x (bit_xor a b)))) (bit_times (k % 2) a b (omega arith))
    ∙ ap (bit_xor (bit_xor (k % 2 * a) (k % 2 * b))) rest
    ∙ xor_pairs (k % 2 * a) (k % 2 * b) _ _

pub product_byte : (k a : ℕ) → a < 256 → product k a < 256
unfolding product
product_byte k a p = partial_product_byte 8 k a p

pub product_xor : (k a b : ℕ) → a < 256 → b < 256 → product k (bit_xor a b) ≡ bit_xor (product k a) (product k b)
unfolding product
product_xor k a b p q = partial_product_xor 8 k a b p q
