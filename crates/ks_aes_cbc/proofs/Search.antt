-- What the search among all short lists of bytes finds.
use Rattle.std.proofs.Common.{◌≡◌, ℕ, zero, suc, ◌<◌, ◌⊎◌, Bool, true, false, List, [], ◌∷◌, length, Option, Some, None, refl, ap, arith, inl, inr}
use Rattle.std.specs.Prelude.{option_map, if◌then◌else◌}
use Rattle.std.proofs.lemmas.Bool.{cases_lt}
use Rattle.ks_aes_cbc.specs.Aes.{AreBytes}
use Rattle.ks_aes_cbc.specs.Cbc.{either, first_from, first_of_length, first_shorter}
use Rattle.ks_aes_cbc.proofs.BlockLemmas.{AreBytes-nil, AreBytes-cons, AreBytes-tail}

either_some : (o r : Option (List ℕ)) (p : List ℕ) → either o r ≡ Some p → (o ≡ Some p) ⊎ (r ≡ Some p)
either_some None r p e = inr e
either_some (Some q) r p e = inl e

either_none : (o r : Option (List ℕ)) → either o r ≡ None → (o ≡ None) × (r ≡ None)
either_none None r e = (refl, e)
either_none (Some q) r e = absurd (cc e)

-- what a search found, it found from some number
pub first_from-some : (f : ℕ → Option (List ℕ)) (n : ℕ) (p : List ℕ) → first_from f n ≡ Some p → (k : ℕ) × (k < n) × (f k ≡ Some p)
unfolding first_from
first_from-some f zero p e = absurd (cc e)
first_from-some f (suc n) p e = elim (either_some (first_from f n) (f n) p e) [
  | inl before ↦
      let found = first_from-some f n p before in
      let lt : found.0 < n = found.1 in
      (found.0, omega arith, found.2)
  | inr here ↦ (n, omega arith, here)
]

-- where it found nothing, there is nothing at any
pub first_from-none : (f : ℕ → Option (List ℕ)) (n : ℕ) → first_from f n ≡ None → (k : ℕ) → k < n → f k ≡ None
unfolding first_from
first_from-none f zero e k lt = absurd (omega arith)
first_from-none f (suc n) e k lt =
    let both = either_none (first_from f n) (f n) e in
    elim (cases_lt k n) [
      | inl below ↦ first_from-none f n both.0 k below
      | inr top ↦
          let same : k ≡ n = omega arith in
          rw same both.1
    ]

-- a list that is found passes the test, and is one of n bytes
pub record Passes (test : List ℕ → Bool) (n : ℕ) (p : List ℕ) : Type 0 where
  pub passes : test p ≡ true
  pub bytes : AreBytes p
  pub long : length p ≡ n

if_some : (b : Bool) (p : List ℕ) → (if b then Some [] else None) ≡ Some p → (b ≡ true) × (p ≡ [])
if_some true p e = (refl, cc e)
if_some false p e = absurd (cc e)

if_none : (b : Bool) → (let o : Option (List ℕ) = if b then Some [] else None in o) ≡ None → b ≡ false
if_none true e = absurd (cc e)
if_none false e = refl

put_some : (b : ℕ) (o : Option (List ℕ)) (p : List ℕ) → option_map (λ q. b ∷ q) o ≡ Some p → (q : List ℕ) × (o ≡ Some q) × (p ≡ b ∷ q)
put_some b None p e = absurd (cc e)
put_some b (Some q) p e = (q, refl, cc e)

put_none : (b : ℕ) (o : Option (List ℕ)) → option_map (λ q. b ∷ q) o ≡ None → o ≡ None
put_none b None e = refl
put_none b (Some q) e = absurd (cc e)

pub first_of_length-some : (test : List ℕ → Bool) (n : ℕ) (p : List ℕ) → first_of_length test n ≡ Some p → Passes test n p
unfolding first_of_length
first_of_length-some test zero p e =
    let found = if_some (test []) p e in
    rw found.1 (record { passes = found.0; bytes = AreBytes-nil; long = refl })
first_of_length-some test (suc n) p e =
    let from = first_from-some (λ b. option_map (λ p. b ∷ p) (first_of_length (λ p. test (b ∷ p)) n)) 256 p e in
    let b : ℕ = from.0 in
    let put = put_some b (first_of_length (λ p. test (b ∷ p)) n) p from.2 in
    let rest = first_of_length-some (λ p. test (b ∷ p)) n put.0 put.1 in
    rw put.2 (record {
      passes = rest.passes;
      bytes = AreBytes-cons b put.0 from.1 rest.bytes;
      long = ap suc rest.long;
    })

pub first_of_length-none : (test : List ℕ → Bool) (n : ℕ) → first_of_length test n ≡ None → (p : List ℕ) → AreBytes p → length p ≡ n → test p ≡ false
unfolding first_of_length
first_of_length-none test zero e [] h long = if_none (test []) e
first_of_length-none test zero e (b ∷ p) h long = absurd (omega arith)
first_of_length-none test (suc n) e [] h long = absurd (omega arith)
first_of_length-none test (suc n) e (b ∷ p) h long =
    let at = first_from-none (λ b. option_map (λ p. b ∷ p) (first_of_length (λ p. test (b ∷ p)) n)) 256 e b (h zero) in
    first_of_length-none (λ p. test (b ∷ p)) n (put_none b _ at) p (AreBytes-tail b p h) (omega arith)

pub first_shorter-some : (test : List ℕ → Bool) (n : ℕ) (p : List ℕ) → first_shorter test n ≡ Some p → (k : ℕ) × (k < n) × Passes test k p
unfolding first_shorter
first_shorter-some test n p e =
    let from = first_from-some (first_of_length test) n p e in
    (from.0, from.1, first_of_length-some test from.0 p from.2)

pub first_shorter-none : (test : List ℕ → Bool) (n : ℕ) → first_shorter test n ≡ None → (p : List ℕ) → AreBytes p → length p < n → test p ≡ false
unfolding first_shorter
first_shorter-none test n e p h short =
    first_of_length-none test (length p) (first_from-none (first_of_length test) n e (length p) short) p h refl
