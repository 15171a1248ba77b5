-- The sum of a chain of blocks, taken block by block.
use Rattle.std.proofs.Common.{◌≡◌, ℕ, suc, ◌+◌, ◌<◌, List, ◌∷◌, ◌++◌, [], length, get_or, refl, arith, fold, bit_xor}
use Rattle.std.proofs.lemmas.List.FromFn.{fill_by_all}
use Rattle.ks_hmac.specs.Hmac.{hmac_of}
use Rattle.ks_hmac.specs.Pbkdf2.{blocks_of, chain_from, column, pbkdf2_of, xor_sum}

-- the sum's bytes, with those of the n blocks after this one still to be added, make the key
pub record IsPartSum (password salt block sum : List ℕ) (n rounds : ℕ) : Type 0 where
  pub long : length sum ≡ 32
  pub completed : (k : ℕ) → k < 32
      → fold bit_xor (get_or sum k 0) (column (chain_from password (hmac_of password block) n) k)
      ≡ xor_sum (column (blocks_of password salt rounds) k)

-- the first block is the sum of itself
pub part_sum_first : (password salt block : List ℕ) (n rounds : ℕ) → rounds ≡ n + 1 → length block ≡ 32
    → block ≡ hmac_of password (salt ++ 0 ∷ 0 ∷ 0 ∷ 1 ∷ []) → IsPartSum password salt block block n rounds
unfolding chain_from
part_sum_first password salt block n rounds one long is = record {
  long = long;
  completed = λ k below. let e : rounds ≡ suc n = omega arith in rw (e, is) refl;
}

-- one more block is added
pub part_sum_next : (password salt block sum next added : List ℕ) (n m rounds : ℕ)
    → IsPartSum password salt block sum n rounds → n ≡ m + 1 → next ≡ hmac_of password block → length added ≡ 32
    → ((k : ℕ) → k < 32 → get_or added k 0 ≡ bit_xor (get_or sum k 0) (get_or next k 0))
    → IsPartSum password salt next added m rounds
unfolding chain_from
part_sum_next password salt block sum next added n m rounds before one is long adds = record {
  long = long;
  completed = λ k below.
      let e : n ≡ suc m = omega arith in
      let told = rw e at (before.completed k below) in
      rw (adds k below, is) told;
}

-- with no block still to be added, the sum is the key
pub part_sum_all : (password salt block sum : List ℕ) (n rounds : ℕ) → IsPartSum password salt block sum n rounds
    → n ≡ 0 → sum ≡ pbkdf2_of password salt rounds
unfolding chain_from pbkdf2_of
part_sum_all password salt block sum n rounds part none =
    fill_by_all (λ k. xor_sum (column (blocks_of password salt rounds) k)) sum 32 0 part.long
    (λ k below. rw none at (part.completed k below))
