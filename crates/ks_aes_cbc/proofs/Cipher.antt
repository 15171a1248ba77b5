-- The cipher has an inverse, and each undoes the other on blocks.
use Rattle.std.proofs.Common.{◌≡◌, ℕ, zero, suc, ◌+◌, ◌-◌, ◌*◌, ◌<◌, List, [], ◌∷◌, slice_index, refl, ap, ◌∙◌, arith}
use Rattle.ks_aes_cbc.specs.Aes.{AreBytes, IsBlock, sub_bytes, shift_rows, mix_columns, xor_bytes, word, turned_word, next_round_key, round_constant, round_key, after_rounds, aes}
use Rattle.ks_aes_cbc.specs.Inverse.{unsub_bytes, unshift_rows, unmix_columns, undone_rounds, unaes}
use Rattle.ks_aes_cbc.proofs.Fields.{times_x_byte}
use Rattle.ks_aes_cbc.proofs.BlockLemmas.{AreBytes-written, AreBytes-four, AreBytes-xor_bytes, xor_block_block, xor_block_cancel}
use Rattle.ks_aes_cbc.proofs.Steps.{sbox_byte, sub_block, unsub_block, shift_block, unshift_block, mix_block, unmix_block, unsub-sub, sub-unsub, unshift-shift, shift-unshift, unmix-mixed, mix-unmixed}

-- the round keys are blocks
pub round_constant_byte : (n : ℕ) → round_constant n < 256
unfolding round_constant
round_constant_byte zero = omega arith
round_constant_byte (suc n) = times_x_byte (round_constant n) (round_constant_byte n)

word_bytes : (key : List ℕ) (i : ℕ) → AreBytes key → AreBytes (word key i)
word_bytes key i h = AreBytes-written (word key i) (h (4 * i), (h (4 * i + 1), (h (4 * i + 2), (h (4 * i + 3), tt))))

turned_word_bytes : (key : List ℕ) → AreBytes key → AreBytes (turned_word key)
turned_word_bytes key h =
    AreBytes-written (turned_word key) (sbox_byte (slice_index key 13) (h 13), (sbox_byte (slice_index key 14) (h 14), (sbox_byte (slice_index key 15) (h 15), (sbox_byte (slice_index key 12) (h 12), tt))))

pub next_round_key_block : (constant : ℕ) (key : List ℕ) → constant < 256 → AreBytes key → IsBlock (next_round_key constant key)
unfolding next_round_key xor_bytes
next_round_key_block constant key small h =
    let rcon : List ℕ = constant ∷ 0 ∷ 0 ∷ 0 ∷ [] in
    let w0 : List ℕ = xor_bytes (word key 0) (xor_bytes (turned_word key) rcon) in
    let w1 : List ℕ = xor_bytes (word key 1) w0 in
    let w2 : List ℕ = xor_bytes (word key 2) w1 in
    let with_constant = AreBytes-xor_bytes (turned_word key) rcon (turned_word_bytes key h)
    (AreBytes-written rcon (small, (omega arith, (omega arith, (omega arith, tt))))) in
    let first = AreBytes-xor_bytes (word key 0) (xor_bytes (turned_word key) rcon) (word_bytes key 0 h) with_constant in
    let second = AreBytes-xor_bytes (word key 1) w0 (word_bytes key 1 h) first in
    let third = AreBytes-xor_bytes (word key 2) w1 (word_bytes key 2 h) second in
    let fourth = AreBytes-xor_bytes (word key 3) w2 (word_bytes key 3 h) third in
    record {
      long = refl;
      bytes = AreBytes-four w0 w1 w2 (xor_bytes (word key 3) w2) first second third fourth;
    }

pub round_key_block : (key : List ℕ) (n : ℕ) → IsBlock key → IsBlock (round_key key n)
unfolding round_key
round_key_block key zero h = h
round_key_block key (suc n) h = next_round_key_block (round_constant n) (round_key key n) (round_constant_byte n) (round_key_block key n h).bytes

-- what the rounds make of a block is a block
pub after_rounds_block : (key block : List ℕ) (n : ℕ) → IsBlock key → IsBlock block → IsBlock (after_rounds key block n)
unfolding after_rounds
after_rounds_block key block zero hk hb = xor_block_block block (round_key key 0) hb (round_key_block key 0 hk)
after_rounds_block key block (suc n) hk hb =
    xor_block_block _ _ (mix_block _ (shift_block _ (sub_block _ (after_rounds_block key block n hk hb)))) (round_key_block key (suc n) hk)

pub aes_block : (key block : List ℕ) → IsBlock key → IsBlock block → IsBlock (aes key block)
unfolding aes
aes_block key block hk hb =
    xor_block_block _ _ (shift_block _ (sub_block _ (after_rounds_block key block 9 hk hb))) (round_key_block key 10 hk)

pub undone_rounds_block : (key block : List ℕ) (n : ℕ) → IsBlock key → IsBlock block → IsBlock (undone_rounds key block n)
unfolding undone_rounds
undone_rounds_block key block zero hk hb = xor_block_block block (round_key key 10) hb (round_key_block key 10 hk)
undone_rounds_block key block (suc n) hk hb =
    unmix_block _ (xor_block_block _ _ (unsub_block _ (unshift_block _ (undone_rounds_block key block n hk hb))) (round_key_block key (9 - n) hk))

pub unaes_block : (key block : List ℕ) → IsBlock key → IsBlock block → IsBlock (unaes key block)
unfolding unaes
unaes_block key block hk hb =
    xor_block_block _ _ (unsub_block _ (unshift_block _ (undone_rounds_block key block 9 hk hb))) (round_key_block key 0 hk)

-- SubBytes and ShiftRows, undone in either order
undo_steps : (s : List ℕ) → IsBlock s → unsub_bytes (unshift_rows (shift_rows (sub_bytes s))) ≡ s
undo_steps s h = ap unsub_bytes (unshift-shift (sub_bytes s) (sub_block s h)) ∙ unsub-sub s h

redo_steps : (s : List ℕ) → IsBlock s → shift_rows (sub_bytes (unsub_bytes (unshift_rows s))) ≡ s
redo_steps s h = ap shift_rows (sub-unsub (unshift_rows s) (unshift_block s h)) ∙ shift-unshift s h

-- each round of the one undoes a round of the other
undone-aes : (key p : List ℕ) (n m : ℕ) → n + m ≡ 9 → IsBlock key → IsBlock p
    → undone_rounds key (aes key p) n ≡ shift_rows (sub_bytes (after_rounds key p m))
unfolding undone_rounds aes after_rounds
undone-aes key p zero m e hk hp =
    let nine : m ≡ 9 = omega arith in
    rw nine (xor_block_cancel (shift_rows (sub_bytes (after_rounds key p 9))) (round_key key 10)
    (shift_block _ (sub_block _ (after_rounds_block key p 9 hk hp))) (round_key_block key 10 hk))
undone-aes key p (suc n) m e hk hp =
    let left : 9 - n ≡ suc m = omega arith in
    let mixed = shift_block _ (sub_block _ (after_rounds_block key p m hk hp)) in
    ap (λ s. unmix_columns (xor_bytes (unsub_bytes (unshift_rows s)) (round_key key (9 - n)))) (undone-aes key p n (suc m) (omega arith) hk hp)
    ∙ ap (λ s. unmix_columns (xor_bytes s (round_key key (9 - n)))) (undo_steps (after_rounds key p (suc m)) (after_rounds_block key p (suc m) hk hp))
    ∙ ap (λ k. unmix_columns (xor_bytes (after_rounds key p (suc m)) (round_key key k))) left
    ∙ ap unmix_columns (xor_block_cancel _ (round_key key (suc m)) (mix_block _ mixed) (round_key_block key (suc m) hk))
    ∙ unmix-mixed _ mixed

pub unaes-aes : (key p : List ℕ) → IsBlock key → IsBlock p → unaes key (aes key p) ≡ p
unfolding unaes after_rounds
unaes-aes key p hk hp =
    ap (λ s. xor_bytes (unsub_bytes (unshift_rows s)) (round_key key 0)) (undone-aes key p 9 0 refl hk hp)
    ∙ ap (λ s. xor_bytes s (round_key key 0)) (undo_steps (after_rounds key p 0) (after_rounds_block key p 0 hk hp))
    ∙ xor_block_cancel p (round_key key 0) hp (round_key_block key 0 hk)

redone-unaes : (key c : List ℕ) (n m : ℕ) → n + m ≡ 9 → IsBlock key → IsBlock c
    → after_rounds key (unaes key c) m ≡ unsub_bytes (unshift_rows (undone_rounds key c n))
unfolding undone_rounds unaes after_rounds
redone-unaes key c n zero e hk hc =
    let nine : n ≡ 9 = omega arith in
    rw nine (xor_block_cancel (unsub_bytes (unshift_rows (undone_rounds key c 9))) (round_key key 0)
    (unsub_block _ (unshift_block _ (undone_rounds_block key c 9 hk hc))) (round_key_block key 0 hk))
redone-unaes key c n (suc m) e hk hc =
    let left : 9 - n ≡ suc m = omega arith in
    let inner = unsub_block _ (unshift_block _ (undone_rounds_block key c n hk hc)) in
    let added = xor_block_block _ _ inner (round_key_block key (9 - n) hk) in
    ap (λ s. xor_bytes (mix_columns (shift_rows (sub_bytes s))) (round_key key (suc m))) (redone-unaes key c (suc n) m (omega arith) hk hc)
    ∙ ap (λ s. xor_bytes (mix_columns s) (round_key key (suc m))) (redo_steps (undone_rounds key c (suc n)) (undone_rounds_block key c (suc n) hk hc))
    ∙ ap (λ s. xor_bytes s (round_key key (suc m))) (mix-unmixed _ added)
    ∙ ap (λ k. xor_bytes (xor_bytes (unsub_bytes (unshift_rows (undone_rounds key c n))) (round_key key k)) (round_key key (suc m))) left
    ∙ xor_block_cancel _ (round_key key (suc m)) inner (round_key_block key (suc m) hk)

pub aes-unaes : (key c : List ℕ) → IsBlock key → IsBlock c → aes key (unaes key c) ≡ c
unfolding aes undone_rounds
aes-unaes key c hk hc =
    ap (λ s. xor_bytes (shift_rows (sub_bytes s)) (round_key key 10)) (redone-unaes key c 0 9 refl hk hc)
    ∙ ap (λ s. xor_bytes s (round_key key 10)) (redo_steps (undone_rounds key c 0) (undone_rounds_block key c 0 hk hc))
    ∙ xor_block_cancel c (round_key key 10) hc (round_key_block key 10 hk)
