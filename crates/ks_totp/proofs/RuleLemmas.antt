-- A rule is within the methods where each of its bits is one of theirs.
use Rattle.std.proofs.Common.{◌≡◌, ℕ, ◌<◌, ◌==◌, true, false, List, [], ◌∷◌, length, bit_and, min, refl, inl, inr, sym, ap, ◌∙◌, arith, eq-eqb, eqb-true}
use Rattle.std.specs.Int.{bit_at}
use Rattle.std.specs.List.{list_any}
use Rattle.std.proofs.lemmas.Bool.{cases_lt}
use Rattle.std.proofs.lemmas.Nat.Bits.{bit_at-lt, bit_at_and, same_from_bits}
use Rattle.ks_totp.specs.Factors.{is_within, some_met}

taken : (a b : ℕ) → b < 2 → min a b ≡ a → a ≡ 1 → b ≡ 1
taken a b lt least one = omega arith

least : (a b : ℕ) → a < 2 → b < 2 → (a ≡ 1 → b ≡ 1) → min a b ≡ a
least a b first second holds = elim (cases_lt a 1) [ inl none ↦ omega arith | inr one ↦ omega (arith, holds (omega arith)) ]

pub bits_within : (methods rule : ℕ) → is_within methods rule ≡ true → (k : ℕ) → bit_at rule k ≡ 1 → bit_at methods k ≡ 1
bits_within methods rule within k one =
    let is : bit_and rule methods ≡ rule = eqb-true (bit_and rule methods) rule within in
    taken (bit_at rule k) (bit_at methods k) (bit_at-lt methods k) (sym (bit_at_and rule methods k) ∙ ap (λ n. bit_at n k) is) one

pub within_by_bits : (methods rule : ℕ) → ((k : ℕ) → bit_at rule k ≡ 1 → bit_at methods k ≡ 1) → is_within methods rule ≡ true
within_by_bits methods rule holds =
    eq-eqb (bit_and rule methods) rule
    (same_from_bits (bit_and rule methods) rule
    (λ k. bit_at_and rule methods k ∙ least (bit_at rule k) (bit_at methods k) (bit_at-lt rule k) (bit_at-lt methods k) (holds k)))

-- some rules are there, so one of them has to be met
pub rules_met : (methods : ℕ) (rules : List ℕ) → (length rules == 0) ≡ false → list_any (is_within methods) rules ≡ some_met methods rules
rules_met methods [] none = cc
rules_met methods (rule ∷ rules) some = refl
