-- Truth values, beside what std has of them.
use Rattle.std.proofs.Common.{◌≡◌, Bool, true, false, not, ◌&&◌, refl, sym}

pub not_both : (b : Bool) → not b ≡ true → b ≡ true → ⊥
not_both true isnt is = cc
not_both false isnt is = cc

-- two tests of which each holds where the other does
pub equal_truths : (a b : Bool) → (a ≡ true → b ≡ true) → (b ≡ true → a ≡ true) → a ≡ b
equal_truths true true forth back = refl
equal_truths true false forth back = sym (forth refl)
equal_truths false true forth back = back refl
equal_truths false false forth back = refl

pub not_if : (b : Bool) → (b ≡ true → ⊥) → not b ≡ true
not_if true other = absurd (other refl)
not_if false other = refl

pub and_none : (a b : Bool) → b ≡ false → (a && b) ≡ false
and_none true b is = is
and_none false b is = refl
