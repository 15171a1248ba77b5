-- Letters and the padding behind them.
use Rattle.std.proofs.Common.{◌≡◌, ◌≢◌, ◌⊎◌, ℕ, zero, suc, ◌+◌, ◌-◌, ◌*◌, ◌%◌, ◌==◌, ◌<◌, ◌≤◌, true, List, [], ◌∷◌, ◌++◌, length, take, drop, slice_index, replicate, refl, sym, ap, ◌∙◌, arith, inl, inr, take-append-drop}
use Rattle.std.specs.List.{list_all}
use Rattle.std.proofs.lemmas.Bool.{and_parts, cases_order, eqb-true}
use Rattle.std.proofs.lemmas.List.{get_or_append_left, get_or-append_right, get_or-replicate, length-append, length-replicate}
use Rattle.ks_base.proofs.ListLemmas.{drop_front, take_front}
use Rattle.ks_totp.specs.Base32.{base32_of, five_from, IsBase32}
use Rattle.ks_totp.proofs.Base32Lemmas.{letter_at}
use Rattle.ks_totp.proofs.BitLemmas.{five_small}
use Rattle.ks_totp.proofs.LetterLemmas.{letter_pad}

-- bytes that are all `=`, and so many of it

pub all_pads : (bytes : List ℕ) → list_all (λ b. b == 61) bytes ≡ true → bytes ≡ replicate (length bytes) 61
all_pads [] all = refl
all_pads (b ∷ bytes) all =
    let parts = and_parts (b == 61) (list_all (λ c. c == 61) bytes) all in
    let here : b ≡ 61 = eqb-true b 61 parts.0 in
    let behind : bytes ≡ replicate (length bytes) 61 = all_pads bytes parts.1 in
    cc

pub pads_all : (n : ℕ) → list_all (λ b. b == 61) (replicate n 61) ≡ true
pads_all zero = refl
pads_all (suc n) = pads_all n

-- the letters end where the first `=` stands

no_pad : (bytes : List ℕ) (k : ℕ) → k < length (base32_of bytes) → slice_index (base32_of bytes) k ≢ 61
no_pad bytes k lt is = letter_pad (five_from bytes (5 * k)) (five_small bytes (5 * k)) (sym (letter_at bytes k lt) ∙ is)

pub letters_end : (text letters : List ℕ) (pads count : ℕ) → text ≡ letters ++ replicate pads 61 → ((k : ℕ) → k < length letters → slice_index letters k ≢ 61) →
    count ≤ length text → ((k : ℕ) → k < count → slice_index text k ≢ 61) → (count < length text → slice_index text count ≡ 61) → length letters ≡ count
letters_end text letters pads count is none within before pad = elim (cases_order (length letters) count) [
  | inl same ↦ same
  | inr (inl early) ↦ absurd (before (length letters) early (there early))
  | inr (inr late) ↦ absurd (none count late (here late))
]
  where
    long : length text ≡ length letters + pads
    long = ap length is ∙ length-append letters (replicate pads 61) ∙ ap (λ n. length letters + n) (length-replicate pads 61)

    there : length letters < count → slice_index text (length letters) ≡ 61
    there early =
        ap (λ list. slice_index list (length letters)) is ∙ get_or-append_right letters (replicate pads 61) (length letters) (length letters) 0 refl (omega arith)
        ∙ get_or-replicate pads (length letters - length letters) 61 0 (omega (arith, long))

    here : count < length letters → slice_index letters count ≡ 61
    here late =
        sym (get_or_append_left letters (replicate pads 61) 0 count late) ∙ ap (λ list. slice_index list count) (sym is) ∙ pad (omega (arith, long))

-- so a text is read as its letters and its padding

pub parts_of : (text bytes : List ℕ) (count : ℕ) → count ≤ length text → ((k : ℕ) → k < count → slice_index text k ≢ 61) → (count < length text → slice_index text count ≡ 61) →
    (base32 : IsBase32 text bytes) → (take count text ≡ base32_of bytes) × (drop count text ≡ replicate base32.pads 61)
parts_of text bytes count within before pad base32 =
    let long : length (base32_of bytes) ≡ count = letters_end text (base32_of bytes) base32.pads count base32.text_is (no_pad bytes) within before pad in (
      ap (take count) base32.text_is ∙ take_front count (base32_of bytes) (replicate base32.pads 61) long,
      ap (drop count) base32.text_is ∙ drop_front count (base32_of bytes) (replicate base32.pads 61) long,
    )

pub padded_is : (text letters padding bytes : List ℕ) (count : ℕ) → letters ≡ take count text → padding ≡ drop count text → padding ≡ replicate (length padding) 61 →
    (length padding ≡ 0) ⊎ ((length padding < 8) × (length text % 8 ≡ 0)) → letters ≡ base32_of bytes → IsBase32 text bytes
padded_is text letters padding bytes count front back filled full is = record {
  pads = length padding;
  text_is = sym (take-append-drop count text) ∙ ap (λ list. list ++ drop count text) (sym front ∙ is) ∙ ap (λ list. base32_of bytes ++ list) (sym back ∙ filled);
  padding = full;
}
