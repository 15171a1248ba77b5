-- Blocks of 16 bytes, written out and by index, and sums of blocks.
use Rattle.std.proofs.Common.{◌≡◌, ℕ, zero, suc, ◌<◌, ◌≤◌, List, [], ◌∷◌, ◌++◌, map, length, slice_index, refl, sym, ap, ◌∙◌, arith}
use Rattle.std.proofs.lemmas.List.{length-map}
use Rattle.std.proofs.lemmas.List.FromFn.{fill_by_all}
use Rattle.std.specs.Prelude.{bit_xor}
use Rattle.ks_aes_cbc.specs.Aes.{AreBytes, IsBlock, xor_bytes}
use Rattle.ks_aes_cbc.proofs.Fields.{xor_byte, xor_cancel}

-- the places of a block
abbrev pub places : List ℕ
places = 0 ∷ 1 ∷ 2 ∷ 3 ∷ 4 ∷ 5 ∷ 6 ∷ 7 ∷ 8 ∷ 9 ∷ 10 ∷ 11 ∷ 12 ∷ 13 ∷ 14 ∷ 15 ∷ []

-- a block is the list of its elements
pub written_out : (s : List ℕ) → length s ≡ 16 → map (slice_index s) places ≡ s
written_out s long = sym (fill_by_all (slice_index s) s 16 0 long (λ k lt. refl))

-- each is a byte, by recursion, for lists that are written out
abbrev pub Bytes : List ℕ → Type 0
Bytes [] = Unit {0}
Bytes (b ∷ bs) = (b < 256) × Bytes bs

pub AreBytes-nil : AreBytes []
AreBytes-nil k = omega arith

pub AreBytes-cons : (b : ℕ) (bs : List ℕ) → b < 256 → AreBytes bs → AreBytes (b ∷ bs)
AreBytes-cons b bs p rest zero = p
AreBytes-cons b bs p rest (suc k) = rest k

pub AreBytes-written : (bs : List ℕ) → Bytes bs → AreBytes bs
AreBytes-written [] h = AreBytes-nil
AreBytes-written (b ∷ bs) h = AreBytes-cons b bs h.0 (AreBytes-written bs h.1)

pub AreBytes-tail : (b : ℕ) (bs : List ℕ) → AreBytes (b ∷ bs) → AreBytes bs
AreBytes-tail b bs h k = h (suc k)

pub AreBytes-map : (f : ℕ → ℕ) → ((x : ℕ) → x < 256 → f x < 256) → (bs : List ℕ) → AreBytes bs → AreBytes (map f bs)
AreBytes-map f fits [] h = AreBytes-nil
AreBytes-map f fits (b ∷ bs) h = AreBytes-cons (f b) (map f bs) (fits b (h zero)) (AreBytes-map f fits bs (AreBytes-tail b bs h))

pub AreBytes-append : (as' bs : List ℕ) → AreBytes as' → AreBytes bs → AreBytes (as' ++ bs)
AreBytes-append [] bs h g = g
AreBytes-append (a ∷ as') bs h g = AreBytes-cons a (as' ++ bs) (h zero) (AreBytes-append as' bs (AreBytes-tail a as' h) g)

pub AreBytes-four : (a b c d : List ℕ) → AreBytes a → AreBytes b → AreBytes c → AreBytes d → AreBytes (a ++ (b ++ (c ++ d)))
AreBytes-four a b c d p q r s =
    AreBytes-append a (b ++ (c ++ d)) p (AreBytes-append b (c ++ d) q (AreBytes-append c d r s))

-- a block of other places of a block
pub picked_block : (s : List ℕ) (at : List ℕ) → AreBytes s → length at ≡ 16 → IsBlock (map (slice_index s) at)
picked_block s at h long = record { long = length-map at (slice_index s) ∙ long; bytes = each at }
  where
    each : (at : List ℕ) → AreBytes (map (slice_index s) at)
    each [] = AreBytes-nil
    each (k ∷ ks) = AreBytes-cons (slice_index s k) (map (slice_index s) ks) (h k) (each ks)

-- a function of bytes and one that undoes it, at each byte
pub map-undone : (f g : ℕ → ℕ) → ((x : ℕ) → x < 256 → g (f x) ≡ x) → (bs : List ℕ) → AreBytes bs → map g (map f bs) ≡ bs
map-undone f g back [] h = refl
map-undone f g back (b ∷ bs) h =
    ap (λ x. x ∷ map g (map f bs)) (back b (h zero)) ∙ ap (λ xs. b ∷ xs) (map-undone f g back bs (AreBytes-tail b bs h))

-- sums
pub length-xor_bytes : (as' bs : List ℕ) (n : ℕ) → length as' ≡ n → length bs ≡ n → length (xor_bytes as' bs) ≡ n
unfolding xor_bytes
length-xor_bytes [] bs n p q = p
length-xor_bytes (a ∷ as') [] n p q = absurd (omega arith)
length-xor_bytes (a ∷ as') (b ∷ bs) n p q =
    let rest = length-xor_bytes as' bs (length as') refl (omega arith) in
    omega arith

pub AreBytes-xor_bytes : (as' bs : List ℕ) → AreBytes as' → AreBytes bs → AreBytes (xor_bytes as' bs)
unfolding xor_bytes
AreBytes-xor_bytes [] bs h g = AreBytes-nil
AreBytes-xor_bytes (a ∷ as') [] h g = AreBytes-nil
AreBytes-xor_bytes (a ∷ as') (b ∷ bs) h g =
    AreBytes-cons (bit_xor a b) (xor_bytes as' bs) (xor_byte a b (h zero) (g zero))
    (AreBytes-xor_bytes as' bs (AreBytes-tail a as' h) (AreBytes-tail b bs g))

-- adding the same bytes again takes them away
pub xor_bytes-cancel : (as' bs : List ℕ) → length as' ≤ length bs → xor_bytes (xor_bytes as' bs) bs ≡ as'
unfolding xor_bytes
xor_bytes-cancel [] bs le = refl
xor_bytes-cancel (a ∷ as') [] le = absurd (omega arith)
xor_bytes-cancel (a ∷ as') (b ∷ bs) le =
    ap (λ x. x ∷ xor_bytes (xor_bytes as' bs) bs) (xor_cancel a b)
    ∙ ap (λ xs. a ∷ xs) (xor_bytes-cancel as' bs (omega arith))

pub xor_block_block : (s k : List ℕ) → IsBlock s → IsBlock k → IsBlock (xor_bytes s k)
xor_block_block s k h g = record {
  long = length-xor_bytes s k 16 h.long g.long;
  bytes = AreBytes-xor_bytes s k h.bytes g.bytes;
}

pub xor_block_cancel : (s k : List ℕ) → IsBlock s → IsBlock k → xor_bytes (xor_bytes s k) k ≡ s
xor_block_cancel s k h g =
    let a = h.long in
    let b = g.long in
    xor_bytes-cancel s k (omega arith)

-- element by element
pub xor_bytes-at : (as' bs : List ℕ) (i : ℕ) → i < length as' → i < length bs
    → slice_index (xor_bytes as' bs) i ≡ bit_xor (slice_index as' i) (slice_index bs i)
unfolding xor_bytes
xor_bytes-at [] bs i p q = absurd (omega arith)
xor_bytes-at (a ∷ as') [] i p q = absurd (omega arith)
xor_bytes-at (a ∷ as') (b ∷ bs) zero p q = refl
xor_bytes-at (a ∷ as') (b ∷ bs) (suc i) p q = xor_bytes-at as' bs i (omega arith) (omega arith)
