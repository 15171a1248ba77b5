-- One block more of a stream that is sealed or opened, and its end.
use Rattle.std.proofs.Common.{◌≡◌, ◌≢◌, ℕ, suc, ◌+◌, ◌-◌, ◌*◌, ◌/◌, ◌%◌, ◌<◌, ◌≤◌, List, ◌++◌, length, take, drop, replicate, sym, ap, ◌∙◌, arith, append_assoc}
use Rattle.std.proofs.lemmas.List.{length-drop, take-append-le, drop-append-le, drop-replicate, take_all, append-nil}
use Rattle.ks_aes_cbc.specs.Aes.{AreBytes, IsBlock, xor_bytes, aes}
use Rattle.ks_aes_cbc.specs.Cbc.{pad, cbc, cbc_blocks}
use Rattle.ks_aes_cbc.specs.Inverse.{unaes, uncbc_blocks}
use Rattle.ks_aes_cbc.proofs.Chains.{pad-length, cbc-pad, cbc-length, cbc-opened, cbc-uncbc_blocks, uncbc_blocks-bytes}

-- a last block, filled with its padding
pub pad_filled : (bytes : List ℕ) → length bytes < 16
    → bytes ++ drop (length bytes) (replicate 16 (16 - length bytes)) ≡ pad bytes
unfolding pad
pad_filled bytes short =
    let small : 16 - length bytes % 16 ≡ 16 - length bytes = omega arith in
    rw small (ap (λ x. bytes ++ x) (drop-replicate (length bytes) 16 (16 - length bytes)))

-- padding is at the end: a first block stays
pad_front : (bytes : List ℕ) → 16 ≤ length bytes → take 16 (pad bytes) ≡ take 16 bytes
unfolding pad
pad_front bytes enough = take-append-le 16 bytes _ enough

pad_rest : (bytes : List ℕ) → 16 ≤ length bytes → drop 16 (pad bytes) ≡ pad (drop 16 bytes)
unfolding pad
pad_rest bytes enough =
    let n : length (drop 16 bytes) % 16 ≡ length bytes % 16 = omega (arith, length-drop 16 bytes) in
    rw n (drop-append-le 16 bytes _ enough)

sealed_more : (out key previous left : List ℕ) → 16 ≤ length left
    → (out ++ aes key (xor_bytes (take 16 left) previous))
    ++ cbc_blocks (length (drop 16 left) / 16 + 1) key (aes key (xor_bytes (take 16 left) previous)) (pad (drop 16 left))
    ≡ out ++ cbc_blocks (length left / 16 + 1) key previous (pad left)
unfolding cbc_blocks
sealed_more out key previous left enough =
    let n : length left / 16 + 1 ≡ suc (length (drop 16 left) / 16 + 1) = omega (arith, length-drop 16 left) in
    rw (n, pad_front left enough, pad_rest left enough)
    (append_assoc out (aes key (xor_bytes (take 16 left) previous)) _)

-- the loop's step and end, by what each call gave
pub sealed_step : (out out' key block previous summed next left rest whole : List ℕ) → block ≡ take 16 left → rest ≡ drop 16 left
    → length rest + 16 ≡ length left → summed ≡ xor_bytes block previous → next ≡ aes key summed → out' ≡ out ++ next
    → out ++ cbc_blocks (length left / 16 + 1) key previous (pad left) ≡ whole
    → out' ++ cbc_blocks (length rest / 16 + 1) key next (pad rest) ≡ whole
sealed_step out out' key block previous summed next left rest whole e0 e1 long e2 e3 e4 so_far =
    rw (e4, e3, e2, e0, e1) (sealed_more out key previous left (omega arith) ∙ so_far)

sealed_last : (out key previous left : List ℕ) → length left < 16
    → out ++ aes key (xor_bytes (pad left) previous) ≡ out ++ cbc_blocks (length left / 16 + 1) key previous (pad left)
unfolding cbc_blocks
sealed_last out key previous left short =
    let n : length left / 16 + 1 ≡ 1 = omega arith in
    let whole : take 16 (pad left) ≡ pad left = take_all 16 (pad left) (omega (arith, pad-length left)) in
    rw (n, whole) (ap (λ x. out ++ x) (sym (append-nil (aes key (xor_bytes (pad left) previous)))))

pub sealed_end : (out out' key block previous summed next left whole : List ℕ) → block ≡ pad left → length left < 16
    → summed ≡ xor_bytes block previous → next ≡ aes key summed → out' ≡ out ++ next
    → out ++ cbc_blocks (length left / 16 + 1) key previous (pad left) ≡ whole → out' ≡ whole
sealed_end out out' key block previous summed next left whole e0 short e1 e2 e3 so_far =
    rw (e3, e2, e1, e0) (sealed_last out key previous left short ∙ so_far)

opened_more : (out key previous left : List ℕ) → 16 ≤ length left
    → (out ++ xor_bytes (unaes key (take 16 left)) previous)
    ++ uncbc_blocks (length (drop 16 left) / 16) key (take 16 left) (drop 16 left)
    ≡ out ++ uncbc_blocks (length left / 16) key previous left
unfolding uncbc_blocks
opened_more out key previous left enough =
    let n : length left / 16 ≡ suc (length (drop 16 left) / 16) = omega (arith, length-drop 16 left) in
    rw n (append_assoc out (xor_bytes (unaes key (take 16 left)) previous) _)

pub opened_step : (out out' key block previous opened summed left rest whole : List ℕ) → block ≡ take 16 left → rest ≡ drop 16 left
    → length rest + 16 ≡ length left → opened ≡ unaes key block → summed ≡ xor_bytes opened previous → out' ≡ out ++ summed
    → out ++ uncbc_blocks (length left / 16) key previous left ≡ whole
    → out' ++ uncbc_blocks (length rest / 16) key block rest ≡ whole
opened_step out out' key block previous opened summed left rest whole e0 e1 long e2 e3 e4 so_far =
    rw (e4, e3, e2, e0, e1) (opened_more out key previous left (omega arith) ∙ so_far)

pub opened_last : (out key previous left whole : List ℕ) → length left < 16
    → out ++ uncbc_blocks (length left / 16) key previous left ≡ whole → out ≡ whole
unfolding uncbc_blocks
opened_last out key previous left whole short e =
    let n : length left / 16 ≡ 0 = omega arith in
    sym (append-nil out) ∙ ap (λ x. out ++ x) (sym (ap (λ m. uncbc_blocks m key previous left) n)) ∙ e

-- what was sealed is a whole number of blocks
pub unsealed_length : (key iv sealed : List ℕ) → IsBlock key → IsBlock iv → length sealed % 16 ≢ 0
    → (p : List ℕ) → AreBytes p → cbc key iv (pad p) ≢ sealed
unsealed_length key iv sealed hk hv uneven p hp e =
    let long : length sealed ≡ 16 * (length p / 16 + 1) = sym (ap length e) ∙ cbc-length key iv p hk hv hp in
    uneven (omega arith)

-- whole blocks, opened
pub record Opened (key iv sealed out : List ℕ) : Type 0 where
  pub key_block : IsBlock key
  pub iv_block : IsBlock iv
  pub bytes : AreBytes sealed
  pub whole : length sealed % 16 ≡ 0
  pub is : out ≡ uncbc_blocks (length sealed / 16) key iv sealed

pub opened-bytes : (key iv sealed out : List ℕ) → Opened key iv sealed out → (length out ≡ length sealed) × AreBytes out
opened-bytes key iv sealed out h =
    let even = h.whole in
    let long : length sealed ≡ 16 * (length sealed / 16) = omega arith in
    let all = uncbc_blocks-bytes (length sealed / 16) key iv sealed h.key_block h.iv_block h.bytes long in
    rw h.is (all.0 ∙ sym long, all.1)

-- with no padding there, nothing was sealed to this
pub unsealed_padding : (key iv sealed out : List ℕ) → Opened key iv sealed out → ((p : List ℕ) → pad p ≢ out)
    → (p : List ℕ) → AreBytes p → cbc key iv (pad p) ≢ sealed
unsealed_padding key iv sealed out h none p hp e =
    none p (sym (cbc-opened key iv p sealed h.key_block h.iv_block hp e) ∙ sym h.is)

-- with its padding, it was
pub sealed_again : (key iv sealed out p : List ℕ) → Opened key iv sealed out → pad p ≡ out → cbc key iv (pad p) ≡ sealed
sealed_again key iv sealed out p h e =
    let even = h.whole in
    let long : length sealed ≡ 16 * (length sealed / 16) = omega arith in
    let same = (opened-bytes key iv sealed out h).0 in
    let n : length p / 16 + 1 ≡ length sealed / 16 = omega (arith, pad-length p, ap length e) in
    cbc-pad key iv p ∙ ap (λ m. cbc_blocks m key iv (pad p)) n
    ∙ ap (cbc_blocks (length sealed / 16) key iv) (e ∙ h.is)
    ∙ cbc-uncbc_blocks (length sealed / 16) key iv sealed h.key_block h.iv_block h.bytes long

pub sealed_shorter : (key iv sealed out p : List ℕ) → Opened key iv sealed out → pad p ≡ out → length p < length sealed
sealed_shorter key iv sealed out p h e =
    let same = (opened-bytes key iv sealed out h).0 in
    omega (arith, pad-length p, ap length e)
