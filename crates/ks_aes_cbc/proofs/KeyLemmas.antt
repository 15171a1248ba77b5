-- The key schedule on words, and a block's way through the rounds on words.
use Rattle.std.proofs.Common.{◌≡◌, ◌≢◌, ℕ, ◌+◌, ◌-◌, ◌<◌, ◌≤◌, List, [], ◌∷◌, length, slice_index, slice_set, refl, sym, ap, ◌∙◌, arith, inl, inr, add-one}
use Rattle.std.specs.List.{slice_index_or}
use Rattle.std.proofs.lemmas.Bool.{cases_lt}
use Rattle.std.proofs.lemmas.List.{length-set, get_or-set_same, get_or-set_other}
use Rattle.ks_aes_cbc.specs.declared.tables.TheConstants.{ROUND_CONSTANTS}
use Rattle.ks_aes_cbc.specs.Aes.{IsBlock, sub_bytes, shift_rows, mix_columns, xor_bytes, next_round_key, round_constant, round_key, after_rounds, aes}
use Rattle.ks_aes_cbc.specs.Inverse.{unsub_bytes, unshift_rows, unmix_columns, undone_rounds, unaes}
use Rattle.ks_aes_cbc.specs.Columns.{block_of}
use Rattle.ks_aes_cbc.proofs.Steps.{unsub_block, unshift_block}
use Rattle.ks_aes_cbc.proofs.Cipher.{round_key_block, undone_rounds_block}
use Rattle.ks_aes_cbc.proofs.WordLemmas.{round_constant_is}
use Rattle.ks_aes_cbc.proofs.RoundLemmas.{unmix_columns-xor}

-- one step more of each recursion
pub round_key_more : (key : List ℕ) (n : ℕ) → round_key key (n + 1) ≡ next_round_key (round_constant n) (round_key key n)
unfolding round_key
round_key_more key n = rw (add-one n) refl

pub after_rounds_more : (key block : List ℕ) (n : ℕ)
    → after_rounds key block (n + 1) ≡ xor_bytes (mix_columns (shift_rows (sub_bytes (after_rounds key block n)))) (round_key key (n + 1))
unfolding after_rounds
after_rounds_more key block n = rw (add-one n) refl

pub undone_rounds_more : (key block : List ℕ) (n : ℕ)
    → undone_rounds key block (n + 1) ≡ unmix_columns (xor_bytes (unsub_bytes (unshift_rows (undone_rounds key block n))) (round_key key (9 - n)))
unfolding undone_rounds
undone_rounds_more key block n = rw (add-one n) refl

-- the round keys so far, and one more
abbrev pub AreFirst : List ℕ → List (List ℕ) → ℕ → Type 0
AreFirst key keys i = (length keys ≡ 11) × ((n : ℕ) → n ≤ i → block_of (slice_index_or keys n []) ≡ round_key key n)

pub AreFirst-none : (key k : List ℕ) (rest : List (List ℕ)) (n : ℕ) → n ≤ 0 → block_of k ≡ key → block_of (slice_index_or (k ∷ rest) n []) ≡ round_key key n
unfolding round_key
AreFirst-none key k rest n le e =
    let first : n ≡ 0 = omega arith in
    rw first e

pub AreFirst-more : (key : List ℕ) (keys : List (List ℕ)) (i : ℕ) (next : List ℕ) → i < 10 → AreFirst key keys i
    → block_of next ≡ next_round_key (slice_index ROUND_CONSTANTS i) (block_of (slice_index_or keys i []))
    → AreFirst key (slice_set keys (i + 1) next) (i + 1)
AreFirst-more key keys i next lt held e =
    let long : length keys ≡ 11 = held.0 in
    let new : block_of next ≡ round_key key (i + 1) =
    e ∙ ap (λ c. next_round_key c (block_of (slice_index_or keys i []))) (round_constant_is i lt)
    ∙ ap (next_round_key (round_constant i)) (held.1 i (omega arith)) ∙ sym (round_key_more key i) in (
      length-set keys (i + 1) next ∙ long,
      λ n le. elim (cases_lt n (i + 1)) [
        | inl before ↦
            let other : n ≢ i + 1 = omega arith in
            ap block_of (get_or-set_other keys (i + 1) n next [] other) ∙ held.1 n (omega arith)
        | inr top ↦
            let same : n ≡ i + 1 = omega arith in
            rw same (ap block_of (get_or-set_same keys (i + 1) next [] (omega arith)) ∙ new)
      ],
    )

-- a block sealed: its first key, a round more, and the last round
pub sealed_begun : (key block state k : List ℕ) → block_of k ≡ round_key key 0
    → block_of state ≡ xor_bytes (block_of block) (block_of k) → block_of state ≡ after_rounds key (block_of block) 0
unfolding after_rounds
sealed_begun key block state k e0 e1 = e1 ∙ ap (xor_bytes (block_of block)) e0

pub sealed_on : (key block state next k : List ℕ) (n : ℕ) → block_of state ≡ after_rounds key block n → block_of k ≡ round_key key (n + 1)
    → block_of next ≡ xor_bytes (mix_columns (shift_rows (sub_bytes (block_of state)))) (block_of k)
    → block_of next ≡ after_rounds key block (n + 1)
sealed_on key block state next k n e0 e1 e2 =
    e2 ∙ ap (λ s. xor_bytes (mix_columns (shift_rows (sub_bytes s))) (block_of k)) e0
    ∙ ap (xor_bytes (mix_columns (shift_rows (sub_bytes (after_rounds key block n))))) e1
    ∙ sym (after_rounds_more key block n)

pub sealed_through : (key block state next k : List ℕ) (n : ℕ) → n ≡ 9 → block_of state ≡ after_rounds key block n → block_of k ≡ round_key key 10
    → block_of next ≡ xor_bytes (shift_rows (sub_bytes (block_of state))) (block_of k) → block_of next ≡ aes key block
unfolding aes
sealed_through key block state next k n nine e0 e1 e2 =
    e2 ∙ ap (λ s. xor_bytes (shift_rows (sub_bytes s)) (block_of k)) (e0 ∙ ap (after_rounds key block) nine)
    ∙ ap (xor_bytes (shift_rows (sub_bytes (after_rounds key block 9)))) e1

-- a block opened, likewise
pub opened_begun : (key block state k : List ℕ) → block_of k ≡ round_key key 10
    → block_of state ≡ xor_bytes (block_of block) (block_of k) → block_of state ≡ undone_rounds key (block_of block) 0
unfolding undone_rounds
opened_begun key block state k e0 e1 = e1 ∙ ap (xor_bytes (block_of block)) e0

pub opened_on : (key block state next k : List ℕ) (n : ℕ) → IsBlock key → IsBlock block → block_of state ≡ undone_rounds key block n
    → block_of k ≡ unmix_columns (round_key key (9 - n))
    → block_of next ≡ xor_bytes (unmix_columns (unsub_bytes (unshift_rows (block_of state)))) (block_of k)
    → block_of next ≡ undone_rounds key block (n + 1)
opened_on key block state next k n hk hb e0 e1 e2 =
    let s : List ℕ = undone_rounds key block n in
    e2 ∙ ap (λ s. xor_bytes (unmix_columns (unsub_bytes (unshift_rows s))) (block_of k)) e0
    ∙ ap (xor_bytes (unmix_columns (unsub_bytes (unshift_rows s)))) e1
    ∙ sym (unmix_columns-xor (unsub_bytes (unshift_rows s)) (round_key key (9 - n))
    (unsub_block (unshift_rows s) (unshift_block s (undone_rounds_block key block n hk hb))) (round_key_block key (9 - n) hk))
    ∙ sym (undone_rounds_more key block n)

pub opened_through : (key block state next k : List ℕ) (n : ℕ) → n ≡ 9 → block_of state ≡ undone_rounds key block n → block_of k ≡ round_key key 0
    → block_of next ≡ xor_bytes (unsub_bytes (unshift_rows (block_of state))) (block_of k) → block_of next ≡ unaes key block
unfolding unaes
opened_through key block state next k n nine e0 e1 e2 =
    e2 ∙ ap (λ s. xor_bytes (unsub_bytes (unshift_rows s)) (block_of k)) (e0 ∙ ap (undone_rounds key block) nine)
    ∙ ap (xor_bytes (unsub_bytes (unshift_rows (undone_rounds key block 9)))) e1
