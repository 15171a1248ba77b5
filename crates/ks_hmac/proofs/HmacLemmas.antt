-- Facts on the block of zeros that takes a key, and on two lists that differ nowhere.
use Rattle.std.proofs.Common.{◌≡◌, ℕ, ◌+◌, ◌<◌, List, ◌++◌, length, get_or, drop, replicate, sym, ◌∙◌, ap, arith, below_more, bit_or, bit_xor}
use Rattle.std.proofs.lemmas.List.{drop-replicate}
use Rattle.std.proofs.lemmas.Nat.{le_or_l, le_or_r}
use Rattle.sha2.proofs.Facts256.{length-sha256}
use lib.Bits.{xor_assoc, xor_self, xor_zero_r}
use Rattle.ks_hmac.specs.Hmac.{hmac_of, zero_filled}

-- a block of zeros over whose front the bytes are written
pub over_zeros : (bytes : List ℕ) → bytes ++ drop (length bytes) (replicate 64 0) ≡ zero_filled bytes
over_zeros bytes = ap (λ zeros. bytes ++ zeros) (drop-replicate (length bytes) 64 0)

-- numbers whose sum without carry is 0
same_from_xor : (a b : ℕ) → bit_xor a b ≡ 0 → a ≡ b
same_from_xor a b none =
    sym (xor_zero_r a) ∙ ap (bit_xor a) (sym (xor_self b)) ∙ sym (xor_assoc a b b) ∙ ap (λ n. bit_xor n b) none

-- the differences found below i: none only where the lists agree so far, and none in a list and itself
pub record HasDifferencesBelow (left right : List ℕ) (differences i : ℕ) : Type 0 where
  pub none_if : left ≡ right → differences ≡ 0
  pub only_if : differences ≡ 0 → (k : ℕ) → k < i → get_or left k 0 ≡ get_or right k 0

-- those of one more place are added
pub differences_more : (left right : List ℕ) (differences i : ℕ) → HasDifferencesBelow left right differences i
    → HasDifferencesBelow left right (bit_or differences (bit_xor (get_or left i 0) (get_or right i 0))) (i + 1)
differences_more left right differences i found =
    let here = bit_xor (get_or left i 0) (get_or right i 0) in
    record {
      none_if = λ is. ap (λ n. bit_or n here) (found.none_if is)
          ∙ ap (λ list. bit_xor (get_or list i 0) (get_or right i 0)) is ∙ xor_self (get_or right i 0);
      only_if = λ none.
          let before = le_or_l differences here in
          let last = le_or_r differences here in
          below_more _ _ (found.only_if (omega arith)) (same_from_xor _ _ (omega arith));
    }

-- a code has 32 bytes
pub length_of_hmac : (key message : List ℕ) → length (hmac_of key message) ≡ 32
unfolding hmac_of
length_of_hmac key message = length-sha256 _
