-- The letters of base32, by a test of all of them.
use Rattle.std.proofs.Common.{◌≡◌, ◌⊎◌, inl, inr, ℕ, zero, suc, ◌+◌, ◌-◌, ◌<◌, ◌≤◌, ◌==◌, nat_lt, Bool, true, ◌&&◌, cond, refl, ◌∙◌, arith}
use Rattle.std.proofs.lemmas.Bool.{and_parts, cases_lt, eqb-true}
use Rattle.ks_totp.specs.Base32.{letter_of}

-- a test holds of each number below n
abbrev all_below : (ℕ → Bool) → ℕ → Bool
all_below p zero = true
all_below p (suc n) = p n && all_below p n

below_at : (p : ℕ → Bool) (n k : ℕ) → all_below p n ≡ true → k < n → p k ≡ true
below_at p zero k h lt = absurd (omega arith)
below_at p (suc n) k h lt =
    let parts = and_parts (p n) (all_below p n) h in
    elim (cases_lt k n) [
      | inl before ↦ below_at p n k parts.1 before
      | inr here ↦ let e : k ≡ n = omega arith in rw e parts.0
    ]

letters_test : all_below (λ five. letter_of five == cond (nat_lt five 26) (five + 65) (five + 24)) 32 ≡ true
unfolding letter_of
letters_test = refl

letter_is : (five : ℕ) → five < 32 → letter_of five ≡ cond (nat_lt five 26) (five + 65) (five + 24)
letter_is five lt =
    eqb-true (letter_of five) (cond (nat_lt five 26) (five + 65) (five + 24))
    (below_at (λ n. letter_of n == cond (nat_lt n 26) (n + 65) (n + 24)) 32 five letters_test lt)

-- A to Z, and then 2 to 7
pub letter_ranges : (five : ℕ) → five < 32 → ((five < 26) × (letter_of five ≡ five + 65)) ⊎ ((26 ≤ five) × (letter_of five ≡ five + 24))
letter_ranges five lt = elim (cases_lt five 26) [
  | inl low ↦ inl (low, letter_is five lt ∙ by low)
  | inr high ↦ inr (high, letter_is five lt ∙ behind high)
]
  where
    by : five < 26 → cond (nat_lt five 26) (five + 65) (five + 24) ≡ five + 65
    by low = grind arith

    behind : 26 ≤ five → cond (nat_lt five 26) (five + 65) (five + 24) ≡ five + 24
    behind high = grind arith

pub letter_small : (five : ℕ) → five < 32 → letter_of five < 128
letter_small five lt = elim (letter_ranges five lt) [ inl low ↦ omega (arith, low.1) | inr high ↦ omega (arith, high.1) ]

pub letter_capital : (letter : ℕ) → 65 ≤ letter → letter ≤ 90 → letter_of (letter - 65) ≡ letter
letter_capital letter low high = elim (letter_ranges (letter - 65) (omega arith)) [ inl is ↦ omega (arith, is.1) | inr is ↦ absurd (omega (arith, is.0)) ]

pub letter_digit : (letter : ℕ) → 50 ≤ letter → letter ≤ 55 → letter_of (letter - 50 + 26) ≡ letter
letter_digit letter low high = elim (letter_ranges (letter - 50 + 26) (omega arith)) [ inl is ↦ absurd (omega (arith, is.0)) | inr is ↦ omega (arith, is.1) ]

-- no other byte is a letter
pub letter_none : (letter five : ℕ) → (65 ≤ letter → letter ≤ 90 → ⊥) → (50 ≤ letter → letter ≤ 55 → ⊥) → five < 32 → letter_of five ≡ letter → ⊥
letter_none letter five capital digit lt is = elim (letter_ranges five lt) [
  | inl low ↦ capital (omega (arith, low.1)) (omega (arith, low.0, low.1))
  | inr high ↦ digit (omega (arith, high.0, high.1)) (omega (arith, high.1))
]

pub letter_pad : (five : ℕ) → five < 32 → letter_of five ≡ 61 → ⊥
letter_pad five lt is = letter_none 61 five (λ low high. omega arith) (λ low high. omega arith) lt is

pub letter_exact : (a b : ℕ) → a < 32 → b < 32 → letter_of a ≡ letter_of b → a ≡ b
letter_exact a b first second same = elim (letter_ranges a first) [
  | inl low ↦ elim (letter_ranges b second) [ inl also ↦ omega (arith, low.1, also.1) | inr also ↦ absurd (omega (arith, low.0, low.1, also.0, also.1)) ]
  | inr high ↦ elim (letter_ranges b second) [ inl also ↦ absurd (omega (arith, high.0, high.1, also.0, also.1)) | inr also ↦ omega (arith, high.1, also.1) ]
]
